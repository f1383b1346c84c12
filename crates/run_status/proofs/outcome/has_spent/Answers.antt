use Rattle.std.proofs.Common.{List, subst, ◌∙◌}
use Rattle.hb_wire.specs.declared.post.Post.{Post}
use Rattle.run_status.specs.Spent.{AreMarked}
use Rattle.run_status.proofs.Stuck.{any_spent_is}
use Rattle.run_status.proofs.outcome.has_spent.Goals as goal

pub returns : goal.returns
returns c =
    let are : AreMarked c.args.report.now.config c.args.report.now.history.items c.marked-table.result =
    subst (λ (posts : List Post). AreMarked c.args.report.now.config posts c.marked-table.result) c.as_slice.ensures.value c.marked-table.ensures in
    c.any_spent.ensures ∙ any_spent_is c.args.report.now c.marked-table.result are c.liars-sound.ensures.sound.nodes.1
