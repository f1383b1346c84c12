use Rattle.std.proofs.Common.{◌≡◌, map, All, take}
use Rattle.step_driver.specs.Running.{end_view, end_at, IsKept}
use Rattle.last_deliveries.specs.Settling.{players_of}
use Rattle.returned_players.proofs.ends.ends_of.Given as goal

-- the ends of the actors so far
abbrev pub invariant-loop-number : goal.invariant-loop-number
invariant-loop-number g l =
    let b = g.B.Book in
    let front = players_of b.config b.node b.actor b.seen g.A.Actor.seat g.A.Actor.view (take l.number l.players) in
    record {
      ends : map end_view l.ends.items ≡ map end_at front;
      kept : All IsKept front;
    }
