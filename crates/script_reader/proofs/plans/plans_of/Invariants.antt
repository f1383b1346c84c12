use Rattle.std.proofs.Common.{◌≡◌, map}
use Rattle.std.specs.List.{flat_map, range_with_len}
use Rattle.net_script.specs.Scenario.{planned}
use Rattle.script_reader.specs.Plans.{node_plans}
use Rattle.script_reader.proofs.plans.plans_of.Given as goal

-- the plans of the nodes so far
abbrev pub invariant-loop-node : goal.invariant-loop-node
invariant-loop-node l = map planned l.plans.items ≡ flat_map (node_plans l.n l.liars l.lists.stops.items l.lists.faults.items) (range_with_len 0 l.node)
