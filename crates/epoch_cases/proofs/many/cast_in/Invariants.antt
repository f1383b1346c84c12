use Rattle.std.proofs.Common.{◌≡◌}
use Rattle.epoch_core.specs.Epochs.{has_started}
use Rattle.epoch_cases.proofs.many.cast_in.Given as goal

abbrev pub invariant-loop-epoch : goal.invariant-loop-epoch
invariant-loop-epoch l = record {
  nodes : l.desk.config.n ≡ l.run.nodes;
  started : has_started l.desk;
}
