use Rattle.book_cases.proofs.Postings.{may_again, same_refl, same_trans}
use Rattle.book_cases.proofs.crowd.post_many.Goals as goal

pub loop-init : goal.loop-init
loop-init g c = (c.requires, same_refl _)

pub loop-preserved : goal.loop-preserved
loop-preserved g c = (
  may_again _ c.post_once-told.result _ _ _ c.loop.invariant.0 c.post_once-told.ensures,
  same_trans _ _ _ c.loop.invariant.1 c.post_once-told.ensures.same,
)
