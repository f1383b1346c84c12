-- What a scenario is.
use Rattle.std.specs.Prelude.{ℕ, List, map}
use Rattle.disk_model.specs.declared.plan.Stop.{Stop}
use Rattle.hb_base.specs.Numbers.{Numbers}
use Rattle.net_script.specs.declared.script.Order.{Order}
use Rattle.net_script.specs.declared.script.Submit.{Submit}
use Rattle.net_script.specs.declared.script.LiarAt.{LiarAt}
use Rattle.net_script.specs.declared.script.Link.{Link}
use Rattle.net_script.specs.declared.script.ActorPlan.{ActorPlan}
use Rattle.net_script.specs.declared.script.Script.{Script}

-- the stops and the failing calls of an actor's disk
pub record Planned : Type 0 where
  pub node : ℕ
  pub actor : ℕ
  pub stops : List Stop
  pub faults : List ℕ

-- what a run is to do
pub record Scenario : Type 0 where
  pub config : Numbers
  pub workers : ℕ
  pub order : Order
  pub submit : List Submit
  pub liars : List LiarAt
  pub links : List Link
  pub plans : List Planned

-- an actor's plan, wherever its lists lie in memory
abbrev pub planned : ActorPlan → Planned
planned entry = record { node = entry.node; actor = entry.actor; stops = entry.plan.stops.items; faults = entry.plan.faults.items }

-- what a script says, wherever its lists lie in memory
abbrev pub told : Script → Scenario
told script = record {
  config = script.config;
  workers = script.workers;
  order = script.order;
  submit = script.submit.items;
  liars = script.liars.items;
  links = script.links.items;
  plans = map planned script.plans.items;
}
