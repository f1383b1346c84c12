use Rattle.std.proofs.Common.{◌≡◌, replicate}
use Rattle.acs_core.specs.Shown.{nothing}
use Rattle.acs_core.proofs.acs.no_lanes.Given as goal

abbrev pub invariant-lanes : goal.invariant-lanes
invariant-lanes l = l.lanes.items ≡ replicate l.counter nothing
