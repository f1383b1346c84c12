-- What the core of a lane stands for: the votes that the lane has cast and those that it has heard, of all epochs.
use Rattle.std.specs.Prelude.{◌≡◌, ℕ, ◌+◌, ◌*◌, ◌<◌, ◌≤◌, Bool, true, List, [], ◌∷◌, ◌++◌, length, Option, None, Some, slice_index_or, is_some, if◌then◌else◌}
use Rattle.hb_base.specs.Numbers.{Numbers}
use Rattle.hb_wire.specs.declared.vote.Vote.{Vote}
use Rattle.hb_rules.specs.Hearing.{Hearing}
use Rattle.hb_rules.specs.Slots.{Slot, IsIdle, IsOwed}
use Rattle.hb_rules.specs.Owing.{lane_slots}
use Rattle.hb_rules.specs.Terms.{Terms, terms_of}
use Rattle.lane_core.specs.declared.cores.Cores.{Cores}
use Rattle.lane_core.specs.Cores.{is_for_broadcast, AreAt, StandsAt, HearsInEpoch, IsNodeOf, room_for}

-- whose lane it is, of which run, and what it has of each epoch
pub record LaneView : Type 0 where
  pub config : Numbers
  pub node : ℕ
  pub lane : ℕ
  pub epochs : List (Option Cores)

-- by what it goes; what was submitted at its node doesn't matter to a lane
abbrev pub lane_terms : LaneView → Terms
lane_terms l = terms_of l.config [] l.node l.lane

-- what the lane owes
abbrev pub slots_at : LaneView → List (Slot Vote Hearing)
slots_at l = lane_slots l.config l.node l.lane

-- what it has of an epoch
abbrev pub cores_at : List (Option Cores) → ℕ → Option Cores
cores_at epochs e = slice_index_or epochs e None

-- whether it has anything of the epoch
abbrev pub is_open : LaneView → ℕ → Bool
is_open l e = is_some (cores_at l.epochs e)

-- the cores of an epoch, if there are any, are of the lane and the epoch
abbrev pub AreAtEpoch : Numbers → ℕ → ℕ → ℕ → Option Cores → Type 0
AreAtEpoch c i j e None = Unit {0}
AreAtEpoch c i j e (Some cores) = AreAt c i j e cores

pub record StaysAt (old new : Option Cores) : Type 0 where
  pub stays : (c : Numbers) (i j e : ℕ) → AreAtEpoch c i j e old → AreAtEpoch c i j e new

pub record ArePlaced (c : Numbers) (i j : ℕ) (epochs : List (Option Cores)) : Type 0 where
  pub each : (e : ℕ) → AreAtEpoch c i j e (cores_at epochs e)

-- The core stands for what was cast and heard: nothing is owed, and so does what it has of each epoch.
pub record Stands (l : LaneView) (own : List Vote) (heard : List Hearing) : Type 0 where
  pub idle : IsIdle (slots_at l) own heard
  pub each : (e : ℕ) → e < l.config.epochs → StandsAt e (cores_at l.epochs e) own heard

-- nothing changed but what it has of the epochs
abbrev pub IsSameLane : LaneView → LaneView → Type 0
IsSameLane old new = new ≡ record old { epochs = new.epochs }

-- The core hears one vote more: whatever it stood for, exactly the votes that are owed then become due, in their order, and
-- it stands for all of these.
pub record Hears (old new : LaneView) (h : Hearing) (before after : List Vote) : Type 0 where
  pub same : IsSameLane old new
  pub votes : List Vote
  pub due : after ≡ before ++ votes
  pub owed : (own : List Vote) (heard : List Hearing) → Stands old own heard
      → IsOwed (slots_at old) own (heard ++ h ∷ []) votes
  pub stands : (own : List Vote) (heard : List Hearing) → Stands old own heard
      → Stands new (own ++ votes) (heard ++ h ∷ [])

-- it stands for whatever it stood for
abbrev pub KeepsStanding : LaneView → LaneView → Type 0
KeepsStanding old new = (own : List Vote) (heard : List Hearing) → Stands old own heard → Stands new own heard

-- ---- parts of the calls

-- for how many votes the agreement of an epoch asks for room, and for how many the lane asks by the vote that it hears
abbrev pub room_at : LaneView → ℕ
room_at l = 7 * l.config.rounds + 1

abbrev pub room_by : LaneView → Vote → ℕ
room_by l vote = if is_for_broadcast vote then room_at l + l.config.n + 2 else room_at l

-- node and lane are of the run, the deal is that of the run, and what there is of each epoch is of the lane
pub record IsLane (c : Numbers) (i j : ℕ) (deal : Numbers) (epochs : List (Option Cores)) : Type 0 where
  pub node : i < c.n
  pub lane : j < c.n
  pub dealt : deal ≡ c
  pub placed : ArePlaced c i j epochs

-- one epoch has these cores now, and the others what they had
pub record Sets (old new : List (Option Cores)) (e : ℕ) (cores : Cores) : Type 0 where
  pub here : cores_at new e ≡ Some cores
  pub others : (k : ℕ) → (k ≡ e → ⊥) → cores_at new k ≡ cores_at old k

-- there are cores of the epoch, and the state stands for what it stood for
pub record Opens (old new : LaneView) (e : ℕ) : Type 0 where
  pub same : IsSameLane old new
  pub is_open : is_open new e ≡ true
  pub stands : (own : List Vote) (heard : List Hearing) → Stands old own heard → Stands new own heard

-- there are cores, and this is one of the nodes
abbrev pub IsOpenFor : Option Cores → ℕ → Type 0
IsOpenFor None from = ⊥
IsOpenFor (Some cores) from = IsNodeOf cores from

-- the cores of the vote's epoch hear it
abbrev pub HearsAt : Option Cores → Option Cores → Hearing → List Vote → List Vote → Type 0
HearsAt (Some old) (Some new) h before after = HearsInEpoch old new h before after
HearsAt _ _ h before after = ⊥

-- there are cores, and there is room for all votes that they may make due by this one
abbrev pub HasRoom : Option Cores → Vote → ℕ → Type 0
HasRoom None vote spare = ⊥
HasRoom (Some cores) vote spare = room_for cores vote ≤ spare

-- what there is of an epoch stands for whatever it stood for
pub record StandsOn (old new : Option Cores) : Type 0 where
  pub stands : (e : ℕ) (own : List Vote) (heard : List Hearing) → StandsAt e old own heard → StandsAt e new own heard

-- What there is of the epochs below n at a lane that has cast these votes and has heard nothing since. It stands for them
-- where they leave nothing owed.
pub record AreRecovered (l : LaneView) (own : List Vote) (n : ℕ) (epochs : List (Option Cores)) : Type 0 where
  pub count : length epochs ≡ n
  pub at : (e : ℕ) → e < n → AreAtEpoch l.config l.node l.lane e (cores_at epochs e)
  pub stands : IsIdle (slots_at l) own [] → (e : ℕ) → e < n → StandsAt e (cores_at epochs e) own []
