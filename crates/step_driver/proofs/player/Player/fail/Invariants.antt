use Rattle.step_driver.specs.Places.{player_view}
use Rattle.step_driver.proofs.Playing.{IsFailing, fails_left}
use Rattle.step_driver.proofs.player.Player.fail.Given as goal

abbrev pub invariant-off : goal.invariant-off
invariant-off g l = IsFailing l.fn.book l.book (player_view g.A.Actor.seat g.A.Actor.view l.fn.self) (player_view g.A.Actor.seat g.A.Actor.view l.self) l.fault

abbrev pub decreases-off : goal.decreases-off
decreases-off g l = fails_left l.fault (player_view g.A.Actor.seat g.A.Actor.view l.self)
