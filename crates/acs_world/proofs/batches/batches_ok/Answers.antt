use Rattle.acs_world.proofs.Exact.{batches_from, batches_all}
use Rattle.acs_world.proofs.Theorems.{batches_enough}
use Rattle.acs_world.proofs.batches.batches_ok.Goals as goal

pub returns-clause-exact : goal.returns-clause-exact
returns-clause-exact c = (
  λ passes. batches_from c.args.report.now.config c.args.report.now.history.items (rw (c.all_enough.ensures, c.as_slice.ensures.value) at passes),
  λ enough. rw (c.all_enough.ensures, c.as_slice.ensures.value) (batches_all c.args.report.now.config c.args.report.now.history.items enough),
)

pub returns-clause-legal : goal.returns-clause-legal
returns-clause-legal c = λ legal premise.
    (returns-clause-exact c).1 (batches_enough c.args.report.now.config c.args.report.now.history.items c.liars-sound.ensures.sound legal premise)
