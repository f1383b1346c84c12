use Rattle.std.proofs.Common.{List}
use Rattle.hb_base.specs.Numbers.{Numbers}
use Rattle.hb_wire.specs.declared.post.Post.{Post}
use Rattle.aba_world.specs.declared.marks.Kind.TheVariants.{Beginning, Decision}
use Rattle.aba_world.specs.Marked.{AreMarked}
use Rattle.aba_world.proofs.Exact.{agreed_from, agree_from}
use Rattle.aba_world.proofs.Theorems.{legal_agreed}
use Rattle.aba_world.proofs.agreed.decided_agree.Goals as goal

pub returns-clause-exact : goal.returns-clause-exact
returns-clause-exact c =
    let config : Numbers = c.args.report.now.config in
    let posts : List Post = c.args.report.now.history.items in
    let begun : AreMarked config Beginning posts c.marked-begun.result = rw c.as_slice-posts.ensures.value at c.marked-begun.ensures in
    let decided : AreMarked config Decision posts c.marked-decided.result = rw c.as_slice-posts.ensures.value at c.marked-decided.ensures in (
      λ agree.
          agreed_from config posts c.marked-begun.result c.marked-decided.result c.liars-sound.ensures.sound.nodes.1 begun decided
          (c.all_agree.ensures.0 agree),
      λ agreed.
          c.all_agree.ensures.1
          (agree_from config posts c.marked-begun.result c.marked-decided.result c.liars-sound.ensures.sound.nodes.1 begun decided agreed),
    )

pub returns-clause-legal : goal.returns-clause-legal
returns-clause-legal c = λ legal premise.
    (returns-clause-exact c).1 (legal_agreed c.args.report.now.config c.args.report.now.history.items c.liars-sound.ensures.sound legal premise)
