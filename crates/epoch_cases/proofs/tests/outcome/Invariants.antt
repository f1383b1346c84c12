use Rattle.std.proofs.Common.{◌≡◌}
use Rattle.epoch_core.specs.Epochs.{has_started}
use Rattle.epoch_cases.proofs.tests.outcome.Given as goal

abbrev pub invariant-loop-word : goal.invariant-loop-word
invariant-loop-word l = record {
  nodes : l.desk.config.n ≡ l.case.nodes;
  started : has_started l.desk;
}
