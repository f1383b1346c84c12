use Rattle.std.proofs.Common.{◌≡◌}
use Rattle.epoch_core.specs.Epochs.{has_started}
use Rattle.epoch_cases.proofs.many.hear_epoch.Given as goal

abbrev pub invariant-loop-lane : goal.invariant-loop-lane
invariant-loop-lane l = record {
  nodes : l.desk.config.n ≡ l.run.nodes;
  started : has_started l.desk;
}
