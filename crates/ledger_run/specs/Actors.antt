-- An actor of a node as contracts see it.
use Rattle.std.specs.Prelude.{ℕ, List, []}
use Rattle.hb_base.specs.Numbers.{Numbers}
use Rattle.hb_wire.specs.declared.post.Post.{Post}
use Rattle.disk_model.specs.Memory.{MemoryState, supply_of}
use Rattle.hb_rules.specs.Actor.{ActorView}
use Rattle.hb_rules.specs.Book.{SeatView}
use Rattle.hb_rules.specs.declared.report.Fate.TheVariants.{Running}
use Rattle.journaled_actor.specs.Kept.{ActorParts, actor_view}
use Rattle.step_driver.specs.Places.{PlayerView, player_at}
pub use Rattle.step_driver.specs.Places.{seat_at}
use Rattle.ledger_run.specs.declared.node_core.NodeCore.{NodeCore}
use Rattle.ledger_run.specs.Cores.{core_terms}

-- its seat
abbrev pub node_seat : {S : Type 0} → ActorParts S MemoryState NodeCore → S
node_seat a = a.seat

-- what is known of it
abbrev pub node_view : {S : Type 0} → ActorParts S MemoryState NodeCore → ActorView
node_view a = actor_view core_terms supply_of (λ disk. disk.faults) a

-- the seat of actor x of node i that has seen nothing
abbrev pub new_seat : Numbers → ℕ → ℕ → SeatView
new_seat c i x = record { config = c; node = i; actor = x; seen = [] }

-- an actor over any kind of book that has not ended
abbrev pub running_at : {S : Type 0} → (S → Numbers) → (S → ℕ) → (S → ℕ) → (S → List Post) → ActorParts S MemoryState NodeCore → PlayerView
running_at config node actor seen a = player_at config node actor seen node_seat node_view a Running
