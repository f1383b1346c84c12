use Rattle.std.proofs.Common.{ℕ, ◌<◌, ◌≤◌, length, get_or}
use Rattle.step_driver.specs.declared.player.Player.{Player}
use Rattle.returned_players.specs.Ordering.{place_number}
use Rattle.returned_players.proofs.ordering.place_for.Given as goal

-- those from here on are not before it
abbrev pub invariant-loop-place : goal.invariant-loop-place
invariant-loop-place g l =
    (k : ℕ) (d : Player _) → l.place ≤ k → k < length l.players
    → l.number ≤ place_number g.B.Book.node g.B.Book.actor g.A.Actor.seat (get_or l.players k d)
