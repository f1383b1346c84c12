use Rattle.std.proofs.Common.{◌≡◌}
use Rattle.acs_core.specs.Subset.{node_epoch_of}
use Rattle.epoch_cases.proofs.subsets.outcomes.Given as goal

abbrev pub invariant-loop-letter : goal.invariant-loop-letter
invariant-loop-letter l = (node_epoch_of l.acs).config.n ≡ l.n
