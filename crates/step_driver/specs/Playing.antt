-- The calls of one actor, apart from what a script says of it.
use Rattle.std.specs.Prelude.{◌≡◌, ℕ, Bool, false, true, length, Option, Some, None, IfSome}
use Rattle.hb_base.specs.Numbers.{Numbers}
use Rattle.hb_base.specs.Limits.{most_posts}
use Rattle.hb_wire.specs.declared.post.Post.{Post}
use Rattle.disk_model.specs.Supply.{IsNamed}
use Rattle.hb_rules.specs.declared.actor.ActorFault.{ActorFault}
use Rattle.hb_rules.specs.declared.actor.ActorFault.TheVariants as faults
use Rattle.hb_rules.specs.declared.report.Fate.{Fate}
use Rattle.hb_rules.specs.declared.report.Fate.TheVariants as fates
use Rattle.net_script.specs.declared.script.Script.{Script}
use Rattle.hb_rules.specs.declared.report.Fate.TheVariants.{Running}
use Rattle.hb_rules.specs.Actor.{ActorView, Goes}
use Rattle.hb_rules.specs.Book.{BookView, SeatView, IsSeatOf}
use Rattle.hb_rules.specs.Ledger.{IsPrefix}
use Rattle.hb_rules.specs.Report.{comes_to, IsReceived}
use Rattle.step_driver.specs.Places.{PlayerView}
use Rattle.step_driver.specs.Delivering.{IsSound, HasFate, Passes, WasRestarted}

-- it was shown the whole history, and nothing else happened to it
pub record HasLooked (book book' : BookView) (old new : PlayerView) : Type 0 where
  pub passes : Passes book book' old new
  pub view : new.view ≡ old.view
  pub fate : new.fate ≡ old.fate
  pub seen : IsPrefix old.seat.seen new.seat.seen
  pub all : new.seat.seen ≡ book'.posts

-- whether a post that was looked for stands, and comes to this actor
abbrev pub comes_found : Numbers → Script → Option Post → ℕ → ℕ → ℕ → Bool
comes_found c s None i x k = false
comes_found c s (Some post) i x k = comes_to c s post i x k

-- why a call was refused
abbrev pub Explains : ActorFault → SeatView → ActorView → Type 0
Explains faults.Journal seat v = IsNamed v.supply
Explains faults.Full seat v = length seat.seen ≡ most_posts
Explains faults.Memory seat v = Unit {0}

-- a call was refused with this fault
pub record IsRefused (fault : ActorFault) (p : PlayerView) : Type 0 where
  pub ended : p.view.live ≡ false
  pub cause : Explains fault p.seat p.view

-- the fate of an actor that ends with this fault
abbrev pub fate_of : ActorFault → Fate
fate_of faults.Journal = fates.Journal
fate_of faults.Full = fates.Full
fate_of faults.Memory = fates.Memory

-- whether an actor is restarted: its journal failed, and its disk is without power
abbrev pub may_restart : ActorFault → Bool → Bool
may_restart faults.Journal off = off
may_restart faults.Full off = false
may_restart faults.Memory off = false

-- a call of an actor, as far as it is the same for all calls
pub record Called (book book' : BookView) (old new : PlayerView) : Type 0 where
  pub passes : Passes book book' old new
  pub seen : IsPrefix old.seat.seen new.seat.seen
  pub goes : Goes old.view new.view
  pub fate : new.fate ≡ old.fate

-- an actor that works may hear post k
pub record IsReady (s : Script) (k : ℕ) (book : BookView) (p : PlayerView) : Type 0 where
  pub seat : IsSeatOf book p.seat
  pub running : p.fate ≡ Running
  pub live : p.view.live ≡ true
  pub sound : IsSound book.config s p
  pub comes : IsReceived book.config s p.seat.seen p.seat.node p.seat.actor k

-- It has ended for a cause, or it was restarted and goes on. What was sound of it still is.
pub record EndsOr (book book' : BookView) (old new : PlayerView) (again : Option ℕ) : Type 0 where
  pub passes : Passes book book' old new
  pub sound : (s : Script) → IsSound book.config s old → IsSound book.config s new
  pub fate : HasFate true new.fate new.seat new.view
  pub works : new.fate ≡ Running → (again ≡ None → ⊥) × (old.fate ≡ Running)
  pub restarted : IfSome again (WasRestarted book book' old new)
  pub live : new.view.live ≡ true → new.fate ≡ Running
