use Rattle.std.proofs.Common.{◌≡◌, ◌&&◌, ◌==◌, [], take, if◌then◌else◌}
use Rattle.std.specs.List.{flat_map}
use Rattle.ledger_run.proofs.disks.plan_of.Given as goal

-- what the entries so far have for the actor
abbrev pub invariant-loop-entry : goal.invariant-loop-entry
invariant-loop-entry l = record {
  stops : l.stops.items ≡ flat_map (λ p. if (p.node == l.node) && (p.actor == l.actor) then p.plan.stops.items else []) (take l.entry-index l.script.plans.items);
  faults : l.faults.items ≡ flat_map (λ p. if (p.node == l.node) && (p.actor == l.actor) then p.plan.faults.items else []) (take l.entry-index l.script.plans.items);
}
