-- A whole run.
use Rattle.std.specs.Prelude.{◌≡◌, ℕ, ◌+◌, ◌<◌, ◌≤◌, true, List, [], length, map, Contains, filter_map, if◌then◌else◌, Option, Some, None, slice_get}
use Rattle.std.specs.Option.{option_to_list}
use Rattle.hb_base.specs.Limits.{most_posts}
use Rattle.hb_base.specs.Numbers.{Numbers}
use Rattle.hb_base.specs.NodeSet.{is_in}
use Rattle.hb_wire.specs.declared.post.Post.{Post}
use Rattle.net_script.specs.declared.script.Script.{Script}
use Rattle.hb_rules.specs.declared.report.Fate.{Fate}
use Rattle.hb_rules.specs.declared.report.Fate.TheVariants.{Full}
use Rattle.hb_rules.specs.declared.report.End.{End}
use Rattle.hb_rules.specs.declared.report.Report.{Report}
use Rattle.hb_rules.specs.Actor.{IsFew, OwesNothing, AreSeen}
use Rattle.hb_rules.specs.Book.{BookView}
use Rattle.hb_rules.specs.Report.{actors}
use Rattle.hb_rules.specs.Same.{firsts}
use Rattle.hb_rules.specs.Terms.{AreProper, cast_in}
use Rattle.step_driver.specs.declared.run.Done.{Done}
use Rattle.step_driver.specs.Waiting.{Waiting, nothing_waits}
use Rattle.step_driver.specs.Places.{PlayerView, Spot, correct, lying, Name, name_of}
use Rattle.step_driver.specs.Delivering.{IsStage, IsSupplied, Always, weight, WasServed}

-- the report of a run, but for its status
abbrev pub report_of : Numbers → Script → Done → Report
report_of c s done = record { config = c; script = s; history = done.history; ends = done.ends; status = 255 }

-- an actor has ended by a full book only where the book is full
pub record EndsFullByCause (report : Report) : Type 0 where
  pub full : (end : End) → Contains report.ends.items end → end.fate ≡ Full → length report.history.items ≡ most_posts

-- an actor of a correct node
abbrev pub actor_of : Name → Option (ℕ × ℕ)
actor_of name = if name.lies then None else Some (name.node, name.actor)

-- a node that lies has a place
pub record HasPlace (all : List Name) (a : ℕ) : Type 0 where
  pub place : ℕ
  pub name : Name
  pub stands : slice_get all place ≡ Some name
  pub lies : name.lies ≡ true
  pub node : name.node ≡ a

-- The places are those of the config: each actor of each correct node, by node and then actor, and each node that lies.
pub record IsTeam (c : Numbers) (all : List Name) : Type 0 where
  pub correct : filter_map actor_of all ≡ actors c
  pub liars : (a : ℕ) → is_in c.liars a ≡ true → HasPlace all a

-- ---- ends

-- an end without where its list lies in memory
pub record EndView : Type 0 where
  pub node : ℕ
  pub actor : ℕ
  pub fate : Fate
  pub got : List ℕ
  pub note : ℕ

abbrev pub end_view : End → EndView
end_view end = record { node = end.node; actor = end.actor; fate = end.fate; got = end.got.items; note = end.note }

abbrev pub end_at : PlayerView → EndView
end_at p = record { node = p.seat.node; actor = p.seat.actor; fate = p.fate; got = p.view.got; note = p.view.supply.calls }

abbrev pub end_of : Spot → Option EndView
end_of (correct p) = Some (end_at p)
end_of (lying h) = None

abbrev pub ends_at : Spot → List EndView
ends_at spot = option_to_list (end_of spot)

-- what an actor tells of itself
pub record IsKept (p : PlayerView) : Type 0 where
  pub config : p.seat.config ≡ p.view.terms.config
  pub node : p.seat.node ≡ p.view.terms.node
  pub actor : p.seat.actor ≡ p.view.terms.actor
  pub few : IsFew p.view.terms p.seat.seen (1 + p.view.restarts)
  pub proper : AreProper p.view.terms [] (firsts (cast_in p.view.terms p.seat.seen))
  pub seen : p.view.live ≡ true → AreSeen p.view.terms p.seat.seen p.view.got
  pub idle : p.view.live ≡ true → OwesNothing p.view.terms p.seat.seen p.view.got

abbrev pub IsKeptAt : Spot → Type 0
IsKeptAt (correct p) = IsKept p
IsKeptAt (lying h) = Unit {0}

pub record AreKept (below : ℕ) (all : List Spot) : Type 0 where
  pub each : (p : ℕ) (spot : Spot) → p < below → slice_get all p ≡ Some spot → IsKeptAt spot

-- ---- from one state to another

-- nothing was lost, so many places have been started, and there is no more left to do
pub record GoesOn (s : Script) (started : ℕ) (book book' : BookView) (old new : List Spot) (line line' : Waiting) : Type 0 where
  pub config : book'.config ≡ book.config
  pub size : length new ≡ length old
  pub same_names : map name_of new ≡ map name_of old
  pub stage : IsStage book.config s started book'.posts new
  pub supplied : IsSupplied Always book.config s book'.posts new line'
  pub less : weight book'.posts new line' ≤ weight book.posts old line

-- one place was served by a delivery of post k, and then so many places have been started
pub record IsTurn (s : Script) (k started p : ℕ) (book book' : BookView) (old new : List Spot) (again : Option ℕ) : Type 0 where
  pub stage : IsStage book.config s started book'.posts new
  pub served : WasServed s k p book book' old new again

-- all was delivered
pub record HasRun (c : Numbers) (s : Script) (posts : List Post) (all : List Spot) : Type 0 where
  pub team : IsTeam c (map name_of all)
  pub stage : IsStage c s (length all) posts all
  pub supplied : IsSupplied Always c s posts all nothing_waits
  pub kept : AreKept (length all) all
