use Rattle.book_cases.specs.Posting.{MayPost, IsSame}
use Rattle.book_cases.proofs.crowd.post_many.Given as goal

abbrev pub invariant-loop : goal.invariant-loop
invariant-loop g l = MayPost l.book l.vote l.seat × IsSame l.initial.seat l.seat
