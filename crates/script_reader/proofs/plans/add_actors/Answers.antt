use Rattle.std.proofs.Common.{map}
use Rattle.net_script.specs.Scenario.{planned}
use Rattle.script_reader.specs.Plans.{actor_plan}
use Rattle.script_reader.proofs.Counts.{flat_map_step}
use Rattle.script_reader.proofs.plans.add_actors.Goals as goal

pub loop-actor-preserved : goal.loop-actor-preserved
loop-actor-preserved c =
    flat_map_step (actor_plan c.args.lists.now.stops.items c.args.lists.now.faults.items c.args.node) c.loop-actor.actor
    (map planned c.args.plans.now.items) (map planned c.loop-actor.plans.items) (map planned c.add_actor.new.plans.items) c.loop-actor.invariant c.in_ok-add_actor.ensures
