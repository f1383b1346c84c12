use Rattle.std.proofs.Common.{◌≡◌, ◌++◌, map}
use Rattle.std.specs.List.{flat_map, range_with_len}
use Rattle.net_script.specs.Scenario.{planned}
use Rattle.script_reader.specs.Plans.{actor_plan}
use Rattle.script_reader.proofs.plans.add_actors.Given as goal

-- the plans of the actors so far
abbrev pub invariant-loop-actor : goal.invariant-loop-actor
invariant-loop-actor l =
    map planned l.plans.items
    ≡ map planned l.fn.plans.items ++ flat_map (actor_plan l.lists.stops.items l.lists.faults.items l.node) (range_with_len 0 l.actor)
