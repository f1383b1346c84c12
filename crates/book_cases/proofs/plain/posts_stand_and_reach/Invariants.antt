use Rattle.hb_rules.specs.Book.{IsSeatOf}
use Rattle.book_cases.proofs.plain.posts_stand_and_reach.Given as goal

abbrev pub invariant-loop-k : goal.invariant-loop-k
invariant-loop-k g l = IsSeatOf l.book l.seat
