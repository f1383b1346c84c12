use Rattle.std.proofs.Common.{◌≡◌, true}
use Rattle.hb_base.specs.NodeSet.{is_in}
use Rattle.book_cases.specs.Posting.{IsSame}
use Rattle.book_cases.proofs.crowd.lie_many.Given as goal

abbrev pub invariant-loop-k : goal.invariant-loop-k
invariant-loop-k g l = (l.seat.book ≡ l.book) × (is_in l.seat.seat.config.liars l.seat.seat.node ≡ true) × IsSame l.initial.seat l.seat
