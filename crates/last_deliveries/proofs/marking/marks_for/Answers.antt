use Rattle.std.proofs.Common.{List, length, subst}
use Rattle.hb_wire.specs.declared.post.Post.{Post}
use Rattle.last_deliveries.specs.Catching.{AreMarked}
use Rattle.last_deliveries.proofs.Catches.{IfOk-on, AreMarked-got}
use Rattle.last_deliveries.proofs.marking.marks_for.Goals as goal

pub returns : goal.returns
returns c =
    IfOk-on _ _ c.marks_of.result (λ marks marked. AreMarked-got c.args.got.now (length c.args.posts.now.posts) marks.items
    (subst (λ (posts : List Post). AreMarked c.args.got.now (length posts) marks.items) c.as_slice.ensures marked)) c.marks_of.ensures
