-- The turns of a node that lies. The letters: a run of script s, post k, node i.
use Rattle.std.specs.Prelude.{◌≡◌, ◌⊎◌, ℕ, ◌+◌, ◌<◌, ◌≤◌, Bool, true, false, List, [], ◌∷◌, ◌++◌, length, if◌then◌else◌, Contains, Option, None, Some, slice_get}
use Rattle.mailbox.specs.Interleaving.{HasAll}
use Rattle.hb_wire.specs.declared.post.Post.{Post}
use Rattle.net_script.specs.declared.script.Script.{Script}
use Rattle.net_script.specs.Delivery.{shape_of}
use Rattle.hb_rules.specs.Ledger.{IsPrefix}
use Rattle.actor_cell.specs.declared.arrival.Arrival.{Arrival}
use Rattle.actor_cell.specs.declared.arrival.Arrival.TheVariants as arrivals
use Rattle.actor_cell.specs.declared.served.Served.{Served}
use Rattle.actor_cell.specs.declared.served.Served.TheVariants as served
use Rattle.actor_cell.specs.Passes.{own_puts}
use Rattle.actor_cell.specs.Mail.{reaches_node, deliveries, sent_of, ArePut, IsSameTaker}
use Rattle.actor_cell.specs.Turning.{by_lateness, arrives, is_late, TookOnly}
use Rattle.liar_cell.specs.HeldLiar.{LiarView}

-- ---- how posts arrive

-- how a post arrives at a node that lies: not at all unless it reaches an actor of the node and is not dropped
abbrev pub arrival_at : Script → Post → ℕ → ℕ → Arrival
arrival_at s post i k = if reaches_node s.config.n post i then by_lateness (shape_of s.links.items post.from i k) else arrivals.Aside

-- whether a post that was looked for was found, and arrives late
abbrev pub is_late_found : Script → Option Post → ℕ → ℕ → Bool
is_late_found s None i k = false
is_late_found s (Some post) i k = is_late (Some (arrival_at s post i k))

-- post k stands in these posts, and arrives at node i; and it does so late
abbrev pub Comes : Script → List Post → ℕ → ℕ → Type 0
Comes s posts i k = (post : Post) × (slice_get posts k ≡ Some post) × (arrives (Some (arrival_at s post i k)) ≡ true)

abbrev pub IsLate : Script → List Post → ℕ → ℕ → Type 0
IsLate s posts i k = (post : Post) × (slice_get posts k ≡ Some post) × (arrival_at s post i k ≡ arrivals.Late)

-- ---- what it says

-- post k stands, and is of node i
abbrev pub IsOwn : ℕ → List Post → ℕ → Type 0
IsOwn i posts k = (post : Post) × (slice_get posts k ≡ Some post) × (post.from ≡ i)

-- numbers of posts of node i, from a number on and below an end: each once, and in order
abbrev pub AreOwn : ℕ → List Post → ℕ → ℕ → List ℕ → Type 0
AreOwn i posts first end [] = first ≤ end
AreOwn i posts first end (k ∷ ks) = (first ≤ k) × IsOwn i posts k × AreOwn i posts (k + 1) end ks

-- ---- what goes on

-- the same script and the same seat, which has seen no less, and the book went on by the calls of this seat
pub record GoesOn {B : Type 0} (moved : ℕ → ℕ → B → B → Type 0) (old new : LiarView B) : Type 0 where
  pub script : new.script ≡ old.script
  pub same : (new.seat.config ≡ old.seat.config) × (new.seat.node ≡ old.seat.node) × (new.seat.actor ≡ old.seat.actor)
  pub seen : IsPrefix old.seat.seen new.seat.seen
  pub book : moved old.seat.node old.seat.actor old.book new.book

-- it said nothing, and heard nothing
pub record IsQuiet {B : Type 0} (old new : LiarView B) : Type 0 where
  pub said : new.said ≡ old.said
  pub hears : new.hears ≡ old.hears

-- it took nothing from its mailbox or from what it holds back
pub record TakesNothing {B : Type 0} (old new : LiarView B) : Type 0 where
  pub taker : IsSameTaker old.mail new.mail
  pub back : new.back ≡ old.back

-- Of posts that stand under the node the numbers were put, by shape, for all whom these reach, and no others: of posts from the
-- number `first` on and below `end`, each once and in order. One that there was no memory to read is left out.
pub record PutsOwn {B : Type 0} (first end : ℕ) (old new : LiarView B) : Type 0 where
  pub numbers : List ℕ
  pub own : AreOwn new.seat.node new.seat.seen first end numbers
  pub put : ArePut new.script.config (deliveries new.script.config new.script new.seat.seen numbers) (sent_of old.mail) (sent_of new.mail)

-- the numbers of posts that it made meanwhile were put
abbrev pub HasTold : {B : Type 0} → LiarView B → LiarView B → Type 0
HasTold old new = PutsOwn (length old.seat.seen) (length new.seat.seen) old new

-- ---- what becomes of the number that a turn takes

-- its post was not heard
pub record IsThrownAway {B : Type 0} (old new : LiarView B) : Type 0 where
  pub quiet : IsQuiet old new
  pub sent : sent_of new.mail ≡ sent_of old.mail

-- its post was heard, and the node said what it did
pub record IsHeard {B : Type 0} (k : ℕ) (old new : LiarView B) : Type 0 where
  pub comes : Comes new.script new.seat.seen new.seat.node k
  pub hears : old.hears ≡ new.hears + 1
  pub told : HasTold old new

abbrev pub Fares : {B : Type 0} → ℕ → LiarView B → LiarView B → Type 0
Fares k old new = IsThrownAway old new ⊎ IsHeard k old new

-- ---- turns

-- these numbers were moved from the mailbox to those held back, since their posts are late, and nothing else happened
pub record HoldsBack {B : Type 0} (moved : List ℕ) (old new : LiarView B) : Type 0 where
  pub asked : old.mail.passes.take.asked + length moved ≤ new.mail.passes.take.asked
  pub quiet : IsQuiet old new
  pub each : (k : ℕ) → Contains moved k → IsLate new.script new.seat.seen new.seat.node k
  pub mail : TookOnly old.mail new.mail moved
  pub back : new.back ≡ old.back ++ moved

-- the number was taken from the mailbox; if its post is late it was thrown away: there was no memory to hold it back, or the
-- node hears no more and the number was not read
pub record IsFromMailbox {B : Type 0} (k : ℕ) (moved : List ℕ) (old new : LiarView B) : Type 0 where
  pub taken : new.mail.passes.take.taken ≡ old.mail.passes.take.taken ++ (moved ++ k ∷ [])
  pub back : new.back ≡ old.back ++ moved
  pub late : IsLate new.script new.seat.seen new.seat.node k → IsThrownAway old new

-- The mailbox gave none: it was asked at least once more than gave the moved numbers, and was seen empty then. All that was put
-- through the passes handed in was taken, and all that the node had put for itself. The number was the first of those held back.
pub record IsFromBack {B : Type 0} (k : ℕ) (moved : List ℕ) (old new : LiarView B) : Type 0 where
  pub asked : old.mail.passes.take.asked + length moved < new.mail.passes.take.asked
  pub taken : new.mail.passes.take.taken ≡ old.mail.passes.take.taken ++ moved
  pub empty : HasAll old.mail.passes.take.joined (old.mail.passes.take.taken ++ moved)
  pub own : HasAll (own_puts old.mail.passes ∷ []) (old.mail.passes.take.taken ++ moved)
  pub looked : new.mail.passes.take.saw_empty ≡ true
  pub back : old.back ++ moved ≡ k ∷ new.back

-- One number was taken. Before it others may have been moved to those held back, since their posts are late.
pub record TakesOne {B : Type 0} (old new : LiarView B) : Type 0 where
  pub number : ℕ
  pub moved : List ℕ
  pub each : (k : ℕ) → Contains moved k → IsLate new.script new.seat.seen new.seat.node k
  pub source : IsFromMailbox number moved old new ⊎ IsFromBack number moved old new
  pub fares : Fares number old new
  pub boxes : new.mail.boxes ≡ old.mail.boxes
  pub joined : new.mail.passes.take.joined ≡ old.mail.passes.take.joined

-- No number was taken: the mailbox was asked and was seen empty then. All that was put through the passes handed in was taken,
-- and all that the node had put for itself. Nothing is held back.
pub record TakesNone {B : Type 0} (old new : LiarView B) : Type 0 where
  pub asked : old.mail.passes.take.asked < new.mail.passes.take.asked
  pub quiet : IsQuiet old new
  pub mail : TookOnly old.mail new.mail []
  pub empty : HasAll old.mail.passes.take.joined old.mail.passes.take.taken
  pub own : HasAll (own_puts old.mail.passes ∷ []) old.mail.passes.take.taken
  pub looked : new.mail.passes.take.saw_empty ≡ true
  pub before : old.back ≡ []
  pub after : new.back ≡ []

-- Did comes exactly where one number was taken. A node that lies never ends.
abbrev pub Turned : {B : Type 0} → Served → LiarView B → LiarView B → Type 0
Turned served.Idle old new = TakesNone old new
Turned served.Did old new = TakesOne old new
Turned served.Ended old new = ⊥

-- a number that was just taken was served
pub record IsServed {B : Type 0} (k : ℕ) (old new : LiarView B) : Type 0 where
  pub fares : Fares k old new
  pub nothing : TakesNothing old new

-- where the mailbox gave none: the first of those held back was served, or there was none
abbrev pub ServesBack : {B : Type 0} → Served → LiarView B → LiarView B → Type 0
ServesBack served.Idle old new = (old.back ≡ []) × (new ≡ old)
ServesBack served.Did old new = (k : ℕ) × (old.back ≡ k ∷ new.back) × Fares k old new × IsSameTaker old.mail new.mail
ServesBack served.Ended old new = ⊥

-- a number from the mailbox was served, unless it was held back, since its post is late
abbrev pub ServesNew : {B : Type 0} → ℕ → Bool → LiarView B → LiarView B → Type 0
ServesNew k true old new = IsServed k old new × (IsLate new.script new.seat.seen new.seat.node k → IsThrownAway old new)
ServesNew k false old new =
    IsQuiet old new × IsLate new.script new.seat.seen new.seat.node k × (new.mail ≡ old.mail) × (new.back ≡ old.back ++ k ∷ [])
