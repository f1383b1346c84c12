-- The turns of an actor. The letters: a run of script s, post k, actor x of node i.
use Rattle.std.specs.Prelude.{◌≡◌, ◌≢◌, ◌⊎◌, ℕ, ◌+◌, ◌<◌, ◌≤◌, Bool, true, false, List, [], ◌∷◌, ◌++◌, length, if◌then◌else◌, Contains, Option, None, Some, slice_get}
use Rattle.mailbox.specs.Interleaving.{HasAll}
use Rattle.hb_base.specs.Numbers.{Numbers}
use Rattle.hb_wire.specs.declared.post.Post.{Post}
use Rattle.net_script.specs.declared.script.Script.{Script}
use Rattle.net_script.specs.declared.script.Shape.{Shape}
use Rattle.net_script.specs.declared.script.Shape.TheVariants.{Once, Twice, Late, Drop}
use Rattle.net_script.specs.Delivery.{shape_of}
use Rattle.hb_rules.specs.declared.actor.ActorFault.{ActorFault}
use Rattle.hb_rules.specs.declared.report.Fate.TheVariants.{Running, Memory}
use Rattle.hb_rules.specs.Actor.{ActorView, budget, Told}
use Rattle.hb_rules.specs.Ledger.{IsPrefix}
use Rattle.hb_rules.specs.Report.{comes_to, IsReceived, is_running_fate}
use Rattle.step_driver.specs.Places.{PlayerView}
use Rattle.step_driver.specs.Delivering.{HasFate}
use Rattle.step_driver.specs.Playing.{fate_of, may_restart}
use Rattle.actor_cell.specs.declared.arrival.Arrival.{Arrival}
use Rattle.actor_cell.specs.declared.arrival.Arrival.TheVariants as arrivals
use Rattle.actor_cell.specs.declared.served.Served.{Served}
use Rattle.actor_cell.specs.declared.served.Served.TheVariants as served
use Rattle.actor_cell.specs.Passes.{own_puts}
use Rattle.actor_cell.specs.Held.{HeldView, player_at}
use Rattle.actor_cell.specs.Mail.{MailView, Sent, sent_of, ArePut, IsSameTaker, deliveries}

-- ---- how a post arrives

abbrev pub by_lateness : Shape → Arrival
by_lateness Once = arrivals.Prompt
by_lateness Twice = arrivals.Prompt
by_lateness Late = arrivals.Late
by_lateness Drop = arrivals.Aside

-- how post k, where it stands, arrives at actor x of node i: not at all unless it comes to the actor, and late if its shape says
-- so
abbrev pub arrival_found : Script → Option Post → ℕ → ℕ → ℕ → Arrival
arrival_found s None i x k = arrivals.Aside
arrival_found s (Some post) i x k =
    if comes_to s.config s post i x k then by_lateness (shape_of s.links.items post.from i k) else arrivals.Aside

abbrev pub arrival : Script → PlayerView → ℕ → Arrival
arrival s p k = arrival_found s (slice_get p.seat.seen k) p.seat.node p.seat.actor k

-- whether a post that was looked at arrives, and whether it does so late
abbrev pub arrives : Option Arrival → Bool
arrives None = false
arrives (Some arrivals.Aside) = false
arrives (Some arrivals.Prompt) = true
arrives (Some arrivals.Late) = true

abbrev pub is_late : Option Arrival → Bool
is_late None = false
is_late (Some arrivals.Aside) = false
is_late (Some arrivals.Prompt) = false
is_late (Some arrivals.Late) = true

-- ---- what an actor does

-- the same seat
pub record IsSameSeat (old new : PlayerView) : Type 0 where
  pub config : new.seat.config ≡ old.seat.config
  pub node : new.seat.node ≡ old.seat.node
  pub actor : new.seat.actor ≡ old.seat.actor

-- an actor was shown more of the history, by posts of others, and nothing else happened to it; of its fate nothing is said
pub record IsShown (old new : PlayerView) : Type 0 where
  pub seat : IsSameSeat old new
  pub view : new.view ≡ old.view
  pub others : Told old.view.terms old.seat.seen new.seat.seen [] []

-- what no call of an actor changes, or makes more; one that was begun stays so
pub record KeepsTerms (old new : ActorView) : Type 0 where
  pub terms : new.terms ≡ old.terms
  pub begun : old.fresh ≡ false → new.fresh ≡ false
  pub planned : new.supply.planned ≡ old.supply.planned
  pub budget : budget new.restarts new.supply ≤ budget old.restarts old.supply

-- an actor that has ended is not live: if it was begun, its last call failed
abbrev pub HasFailed : PlayerView → Type 0
HasFailed p = ¬ (p.fate ≡ Running) → p.view.live ≡ false

-- how an actor comes to want of memory: in a call in which its disk did not fail, or without power, or after a restart
abbrev pub WantedMemory : ActorView → ActorView → Type 0
WantedMemory old new = (new.faults ≡ old.faults) ⊎ ((new.supply.off ≡ true) ⊎ (old.restarts < new.restarts))

-- After a call that failed: where no restart may follow, the actor has ended with the fault, and nothing else happened. Else it
-- was restarted, or is left without power for want of memory.
pub record IsTried (fault : ActorFault) (old new : PlayerView) : Type 0 where
  pub on : may_restart fault old.view.supply.off ≡ false → new ≡ record old { fate = fate_of fault }
  pub off : may_restart fault old.view.supply.off ≡ true
      → (old.view.restarts < new.view.restarts) ⊎ ((new.fate ≡ Memory) × (new.view.supply.off ≡ true))

-- It was restarted after a call that failed, or has ended for a cause. The numbers of its own posts were told, if it was
-- restarted.
pub record Recovers (old new : PlayerView) (before after : List ℕ) : Type 0 where
  pub seat : IsSameSeat old new
  pub seen : IsPrefix old.seat.seen new.seat.seen
  pub keeps : KeepsTerms old.view new.view
  pub fate : HasFate true new.fate new.seat new.view
  pub failed : HasFailed new
  pub got : (k : ℕ) → Contains new.view.got k → Contains old.view.got k
  pub again : new.fate ≡ Running → (new.view.got ≡ []) × (old.view.restarts < new.view.restarts)
  pub told : new.fate ≡ Running → Told old.view.terms old.seat.seen new.seat.seen before after

-- an actor that works after a delivery of post k has received it, or was restarted and has forgotten what it received
abbrev pub HasReceived : ℕ → ActorView → ActorView → Type 0
HasReceived k old new =
    ((new.got ≡ old.got ++ k ∷ []) × (new.restarts ≡ old.restarts)) ⊎ ((new.got ≡ []) × (old.restarts < new.restarts))

-- post k was delivered to it: it goes on, or has ended for a cause. The numbers of its own posts were told, if it goes on.
pub record Hears (k : ℕ) (old new : PlayerView) (before after : List ℕ) : Type 0 where
  pub seat : IsSameSeat old new
  pub seen : IsPrefix old.seat.seen new.seat.seen
  pub keeps : KeepsTerms old.view new.view
  pub fate : HasFate true new.fate new.seat new.view
  pub failed : HasFailed new
  pub memory : new.fate ≡ Memory → WantedMemory old.view new.view
  pub got : (j : ℕ) → Contains new.view.got j → Contains old.view.got j ⊎ (j ≡ k)
  pub received : new.fate ≡ Running → HasReceived k old.view new.view
  pub told : new.fate ≡ Running → Told old.view.terms old.seat.seen new.seat.seen before after

-- The numbers of posts that the actor made were put, by shape, for all whom these reach: of all posts that it made in this turn
-- if it goes on; of the first of these, or of none, if it has ended. Where its last call succeeded and it has ended for want of
-- memory, there is one that was not put.
pub record HasSent (s : Script) (old new : PlayerView) (before after : Sent) : Type 0 where
  pub numbers : List ℕ
  pub put : ArePut s.config (deliveries s.config s new.seat.seen numbers) before after
  pub all : new.fate ≡ Running → Told old.view.terms old.seat.seen new.seat.seen [] numbers
  pub some : (numbers ≡ []) ⊎ ((rest : List ℕ) × Told old.view.terms old.seat.seen new.seat.seen [] (numbers ++ rest))
  pub unsent : new.fate ≡ Memory → new.view.live ≡ true
      → (rest : List ℕ) × (rest ≢ []) × Told old.view.terms old.seat.seen new.seat.seen [] (numbers ++ rest)

-- an actor that was never started was started, and restarted if a stop left it without power: it works, or has ended for a cause
pub record Starts (old new : PlayerView) (before after : List ℕ) : Type 0 where
  pub seat : IsSameSeat old new
  pub seen : IsPrefix old.seat.seen new.seat.seen
  pub keeps : KeepsTerms old.view new.view
  pub begun : new.view.fresh ≡ false
  pub fate : HasFate true new.fate new.seat new.view
  pub failed : HasFailed new
  pub memory : new.fate ≡ Memory → WantedMemory old.view new.view
  pub none : (k : ℕ) → ¬ Contains new.view.got k
  pub told : new.fate ≡ Running → Told old.view.terms old.seat.seen new.seat.seen before after

-- it was started, it has received nothing, and the numbers of its posts were put
pub record Begins (s : Script) (old new : PlayerView) (before after : Sent) : Type 0 where
  pub seat : IsSameSeat old new
  pub seen : IsPrefix old.seat.seen new.seat.seen
  pub keeps : KeepsTerms old.view new.view
  pub begun : new.view.fresh ≡ false
  pub memory : new.fate ≡ Memory → (new.view.live ≡ true) ⊎ WantedMemory old.view new.view
  pub none : (k : ℕ) → ¬ Contains new.view.got k
  pub sent : HasSent s old new before after

-- ---- what becomes of the number that a turn takes

-- its post does not stand in what the actor has seen, does not reach the actor or is dropped, and it was thrown away
pub record IsThrownAway (s : Script) (k : ℕ) (old new : PlayerView) (before after : Sent) : Type 0 where
  pub shown : IsShown old new
  pub fate : new.fate ≡ old.fate
  pub aside : arrival s new k ≡ arrivals.Aside
  pub sent : after ≡ before

-- its post stands, nothing of it was heard or put, and the actor has ended with the fate of want of memory
pub record IsLost (k : ℕ) (old new : PlayerView) (before after : Sent) : Type 0 where
  pub shown : IsShown old new
  pub stands : k < length new.seat.seen
  pub fate : new.fate ≡ Memory
  pub sent : after ≡ before

-- its post was delivered: the actor has received it, or was restarted, or the call that delivered it failed
pub record IsHeard (s : Script) (k : ℕ) (old new : PlayerView) (before after : Sent) : Type 0 where
  pub comes : IsReceived s.config s new.seat.seen new.seat.node new.seat.actor k
  pub seat : IsSameSeat old new
  pub seen : IsPrefix old.seat.seen new.seat.seen
  pub keeps : KeepsTerms old.view new.view
  pub received : new.fate ≡ Running → HasReceived k old.view new.view
  pub heard : HasReceived k old.view new.view ⊎ (new.view.live ≡ false)
  pub memory : new.fate ≡ Memory → (new.view.live ≡ true) ⊎ WantedMemory old.view new.view
  pub sent : HasSent s old new before after

abbrev pub Fares : Script → ℕ → PlayerView → PlayerView → Sent → Sent → Type 0
Fares s k old new before after = IsThrownAway s k old new before after ⊎ (IsLost k old new before after ⊎ IsHeard s k old new before after)

-- ---- turns

-- what a turn may change
pub record Turning : Type 0 where
  pub player : PlayerView
  pub mail : MailView
  pub back : List ℕ

abbrev pub turning : {A B S : Type 0} → (S → Numbers) → (S → ℕ) → (S → ℕ) → (S → List Post) → (A → S) → (A → ActorView) → HeldView A B → Turning
turning config node actor seen seat view h = record { player = player_at config node actor seen seat view h.actor h.fate; mail = h.mail; back = h.back }

-- the same mailbox, and nothing was put
pub record TookOnly (old new : MailView) (more : List ℕ) : Type 0 where
  pub boxes : new.boxes ≡ old.boxes
  pub place : new.passes.place ≡ old.passes.place
  pub joined : new.passes.take.joined ≡ old.passes.take.joined
  pub taken : new.passes.take.taken ≡ old.passes.take.taken ++ more
  pub sent : sent_of new ≡ sent_of old

-- these numbers were moved from the mailbox to those held back, since their posts are late, and nothing else happened
pub record HoldsBack (s : Script) (moved : List ℕ) (old new : Turning) : Type 0 where
  pub asked : old.mail.passes.take.asked + length moved ≤ new.mail.passes.take.asked
  pub shown : IsShown old.player new.player
  pub fate : new.player.fate ≡ old.player.fate
  pub each : (k : ℕ) → Contains moved k → arrival s new.player k ≡ arrivals.Late
  pub mail : TookOnly old.mail new.mail moved
  pub back : new.back ≡ old.back ++ moved

-- a post was delivered
pub record IsDelivered (s : Script) (k : ℕ) (old new : Turning) : Type 0 where
  pub heard : IsHeard s k old.player new.player (sent_of old.mail) (sent_of new.mail)
  pub taker : IsSameTaker old.mail new.mail
  pub back : new.back ≡ old.back

-- A post that arrives is delivered, late or not; for any other nothing happens. None: there was no memory to read it.
abbrev pub Delivers : Script → ℕ → Option Arrival → Turning → Turning → Type 0
Delivers s k None old new = new ≡ old
Delivers s k (Some arrivals.Aside) old new = new ≡ old
Delivers s k (Some arrivals.Prompt) old new = IsDelivered s k old new
Delivers s k (Some arrivals.Late) old new = IsDelivered s k old new

-- a number that was just taken was served
pub record IsServed (s : Script) (k : ℕ) (old new : Turning) : Type 0 where
  pub fares : Fares s k old.player new.player (sent_of old.mail) (sent_of new.mail)
  pub taker : IsSameTaker old.mail new.mail
  pub back : new.back ≡ old.back

-- the number was taken from the mailbox, and its post is not late, or could not be held back
pub record IsFromMailbox (s : Script) (k : ℕ) (moved : List ℕ) (old new : Turning) : Type 0 where
  pub taken : new.mail.passes.take.taken ≡ old.mail.passes.take.taken ++ (moved ++ k ∷ [])
  pub back : new.back ≡ old.back ++ moved
  pub late : arrival s new.player k ≡ arrivals.Late → new.player.fate ≡ Memory

-- The mailbox gave none: it was asked at least once more than gave the moved numbers, and was seen empty then. All that was put
-- through the passes handed in was taken, and all that the actor had put for itself. The number was the first of those held
-- back.
pub record IsFromBack (k : ℕ) (moved : List ℕ) (old new : Turning) : Type 0 where
  pub asked : old.mail.passes.take.asked + length moved < new.mail.passes.take.asked
  pub taken : new.mail.passes.take.taken ≡ old.mail.passes.take.taken ++ moved
  pub empty : HasAll old.mail.passes.take.joined (old.mail.passes.take.taken ++ moved)
  pub own : HasAll (own_puts old.mail.passes ∷ []) (old.mail.passes.take.taken ++ moved)
  pub looked : new.mail.passes.take.saw_empty ≡ true
  pub back : old.back ++ moved ≡ k ∷ new.back

-- One number was taken. Before it others may have been moved to those held back, since their posts are late.
pub record TakesOne (s : Script) (old new : Turning) : Type 0 where
  pub number : ℕ
  pub moved : List ℕ
  pub each : (k : ℕ) → Contains moved k → arrival s new.player k ≡ arrivals.Late
  pub source : IsFromMailbox s number moved old new ⊎ IsFromBack number moved old new
  pub fares : Fares s number old.player new.player (sent_of old.mail) (sent_of new.mail)
  pub boxes : new.mail.boxes ≡ old.mail.boxes
  pub joined : new.mail.passes.take.joined ≡ old.mail.passes.take.joined

-- No number was taken: the mailbox was asked and was seen empty then. All that was put through the passes handed in was taken,
-- and all that the actor had put for itself. Nothing is held back.
pub record TakesNone (old new : Turning) : Type 0 where
  pub asked : old.mail.passes.take.asked < new.mail.passes.take.asked
  pub shown : IsShown old.player new.player
  pub fate : new.player.fate ≡ old.player.fate
  pub mail : TookOnly old.mail new.mail []
  pub empty : HasAll old.mail.passes.take.joined old.mail.passes.take.taken
  pub own : HasAll (own_puts old.mail.passes ∷ []) old.mail.passes.take.taken
  pub looked : new.mail.passes.take.saw_empty ≡ true
  pub before : old.back ≡ []
  pub after : new.back ≡ []

-- Did comes exactly where one number was taken, Ended exactly where the actor had ended before.
abbrev pub Turned : Script → Served → Turning → Turning → Type 0
Turned s served.Idle old new = (old.player.fate ≡ Running) × TakesNone old new
Turned s served.Did old new = (old.player.fate ≡ Running) × TakesOne s old new
Turned s served.Ended old new = (is_running_fate old.player.fate ≡ false) × (new ≡ old)

-- where the mailbox gave none: the first of those held back was served, or there was none
abbrev pub ServesBack : Script → Served → Turning → Turning → Type 0
ServesBack s served.Idle old new = (old.back ≡ []) × (new ≡ old)
ServesBack s served.Did old new =
    (k : ℕ) × (old.back ≡ k ∷ new.back) × Fares s k old.player new.player (sent_of old.mail) (sent_of new.mail) × IsSameTaker old.mail new.mail
ServesBack s served.Ended old new = ⊥

-- a number from the mailbox was served, unless it was held back, since its post is late
abbrev pub ServesNew : Script → ℕ → Bool → Turning → Turning → Type 0
ServesNew s k true old new = IsServed s k old new × (arrival s new.player k ≡ arrivals.Late → new.player.fate ≡ Memory)
ServesNew s k false old new =
    IsShown old.player new.player × (new.player.fate ≡ Running) × (arrival s new.player k ≡ arrivals.Late) × (new.mail ≡ old.mail) × (new.back ≡ old.back ++ k ∷ [])
