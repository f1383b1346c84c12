use Rattle.std.proofs.Common.{◌≡◌, map, take}
use Rattle.net_script.specs.Scenario.{planned}
use Rattle.net_script.proofs.script.copy_plans.Given as goal

abbrev pub invariant-loop-entry : goal.invariant-loop-entry
invariant-loop-entry l = map planned l.copy.items ≡ map planned (take l.entry-index l.plans)
