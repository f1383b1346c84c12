use Rattle.std.proofs.Common.{◌≡◌, ◌<◌, ◌&&◌, ◌==◌, [], List, length, take, get_or, if◌then◌else◌, ap, ◌∙◌, arith}
use Rattle.std.specs.List.{flat_map}
use Rattle.std.proofs.lemmas.List.{take_all}
use Rattle.net_script.specs.declared.script.ActorPlan.{ActorPlan}
use Rattle.ledger_run.proofs.Gathered.{gathered_more}
use Rattle.ledger_run.proofs.disks.plan_of.Goals as goal

pub loop-entry-preserved : goal.loop-entry-preserved
loop-entry-preserved c =
    let plans = c.args.script.now.plans.items in
    let below : c.loop-entry.entry-index < length plans = omega (arith, c.loop-entry-test.true, ap length c.deref-entry-items.ensures.value) in
    let is : c.entry-item.result ≡ get_or plans c.loop-entry.entry-index c.entry-item.result =
    c.entry-item.is ∙ ap (λ (xs : List ActorPlan). get_or xs c.loop-entry.entry-index c.entry-item.result) c.deref-entry-items.ensures.value in
    record {
      stops =
          gathered_more (λ (p : ActorPlan). if (p.node == c.args.node) && (p.actor == c.args.actor) then p.plan.stops.items else []) plans
          c.loop-entry.entry-index c.entry-item.result c.loop-entry.stops.items c.add_planned.new.stops.items below is
          c.loop-entry.invariant.stops c.in_ok-add_planned.ensures.stops;
      faults =
          gathered_more (λ (p : ActorPlan). if (p.node == c.args.node) && (p.actor == c.args.actor) then p.plan.faults.items else []) plans
          c.loop-entry.entry-index c.entry-item.result c.loop-entry.faults.items c.add_planned.new.faults.items below is
          c.loop-entry.invariant.faults c.in_ok-add_planned.ensures.faults;
    }

pub returns-clause-stops : goal.returns-clause-stops
returns-clause-stops c =
    c.loop-entry.invariant.stops
    ∙ ap (λ (xs : List ActorPlan). flat_map (λ (p : ActorPlan). if (p.node == c.args.node) && (p.actor == c.args.actor) then p.plan.stops.items else []) xs)
    (take_all c.loop-entry.entry-index c.args.script.now.plans.items (omega (arith, c.loop-entry-test.false, ap length c.deref-entry-items.ensures.value)))

pub returns-clause-faults : goal.returns-clause-faults
returns-clause-faults c =
    c.loop-entry.invariant.faults
    ∙ ap (λ (xs : List ActorPlan). flat_map (λ (p : ActorPlan). if (p.node == c.args.node) && (p.actor == c.args.actor) then p.plan.faults.items else []) xs)
    (take_all c.loop-entry.entry-index c.args.script.now.plans.items (omega (arith, c.loop-entry-test.false, ap length c.deref-entry-items.ensures.value)))
