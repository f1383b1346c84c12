use Rattle.std.proofs.Common.{◌≡◌, false}
use Rattle.turn_book.proofs.tests.add_all.Given as goal

abbrev pub invariant-loop-count : goal.invariant-loop-count
invariant-loop-count g l = (l.seat.book ≡ l.book) × (l.seat.in_turn ≡ false) × (l.seat.number ≡ l.by)
