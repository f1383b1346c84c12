use Rattle.std.proofs.Common.{◌≡◌}
use Rattle.acs_world.specs.Common.{least_of, counts_below}
use Rattle.acs_world.proofs.common.least_count.Given as goal

abbrev pub invariant-loop-node : goal.invariant-loop-node
invariant-loop-node l = l.least ≡ least_of (counts_below l.report l.node)
