use Rattle.std.proofs.Common.{[], map}
use Rattle.net_script.specs.Scenario.{planned}
use Rattle.script_reader.specs.Plans.{node_plans}
use Rattle.script_reader.proofs.Counts.{flat_map_step}
use Rattle.script_reader.proofs.plans.plans_of.Goals as goal

pub loop-node-preserved : goal.loop-node-preserved
loop-node-preserved c =
    flat_map_step (node_plans c.args.n c.args.liars.now c.args.lists.now.stops.items c.args.lists.now.faults.items) c.loop-node.node
    [] (map planned c.loop-node.plans.items) (map planned c.add_node.new.plans.items) c.loop-node.invariant c.in_ok-add_node.ensures
