use Rattle.acs_world.proofs.Items.{unaltered_from, unaltered_all}
use Rattle.acs_world.proofs.Theorems.{items_unaltered}
use Rattle.acs_world.proofs.proposed.unaltered.Goals as goal

pub returns-clause-exact : goal.returns-clause-exact
returns-clause-exact c = (
  λ passes. unaltered_from c.args.report.now.config c.args.report.now.history.items (rw (c.all_unaltered.ensures, c.as_slice-posts.ensures.value) at passes),
  λ same. rw (c.all_unaltered.ensures, c.as_slice-posts.ensures.value) (unaltered_all c.args.report.now.config c.args.report.now.history.items same),
)

pub returns-clause-legal : goal.returns-clause-legal
returns-clause-legal c = λ legal premise.
    (returns-clause-exact c).1 (items_unaltered c.args.report.now.config c.args.report.now.history.items c.liars-sound.ensures.sound legal premise)
