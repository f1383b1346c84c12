use Rattle.book_cases.proofs.Postings.{same_refl, same_trans}
use Rattle.book_cases.proofs.crowd.lie_many.Goals as goal

pub loop-k-init : goal.loop-k-init
loop-k-init g c = (c.requires.book, c.requires.liar, same_refl _)

pub loop-k-preserved : goal.loop-k-preserved
loop-k-preserved g c =
    (c.lie_once-told.ensures.book, c.lie_once-told.ensures.liar, same_trans _ _ _ c.loop-k.invariant.2 c.lie_once-told.ensures.same)
