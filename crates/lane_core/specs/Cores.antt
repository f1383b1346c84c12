-- What a lane has of one epoch. The letters: lane j of node i, epoch e.
use Rattle.std.specs.Prelude.{◌≡◌, ℕ, ◌+◌, ◌*◌, ◌<◌, Bool, List, [], ◌∷◌, ◌++◌, Option, None, Some, filter, if◌then◌else◌}
use Rattle.hb_base.specs.Numbers.{Numbers}
use Rattle.hb_wire.specs.declared.vote.Vote.{Vote}
use Rattle.hb_wire.specs.Votes.{epoch_of}
use Rattle.hb_rules.specs.Hearing.{Hearing, hearing}
use Rattle.hb_rules.specs.Parts.{in_broadcast, heard_in_broadcast, read_in_agreement, heard_in_agreement, in_epoch, heard_in_epoch}
use Rattle.hb_rules.specs.Slots.{pass, IsOwed}
use Rattle.hb_rules.specs.Owing.{broadcast_slots, agreement_slots}
use Rattle.rbc_core.specs.Broadcast as broadcast
use Rattle.aba_core.specs.State as agreement
use Rattle.aba_core.specs.Standing as standing
use Rattle.lane_core.specs.declared.cores.Cores.{Cores}

-- whether the broadcast of its epoch hears a vote, and whether the agreement does
abbrev pub is_for_broadcast : Vote → Bool
is_for_broadcast vote = heard_in_broadcast (epoch_of vote) (hearing 0 vote)

abbrev pub is_for_agreement : Vote → Bool
is_for_agreement vote = heard_in_agreement (epoch_of vote) (hearing 0 vote)

-- both states are of this lane and epoch
pub record AreAt (c : Numbers) (i j e : ℕ) (cores : Cores) : Type 0 where
  pub rbc : broadcast.place_of cores.rbc ≡ record { config = c; node = i; lane = j; epoch = e }
  pub aba : agreement.place_of cores.aba ≡ record { config = c; node = i; lane = j; epoch = e }

-- they are of the lane and epoch of which they were
abbrev pub StayAt : Cores → Cores → Type 0
StayAt old new = (c : Numbers) (i j e : ℕ) → AreAt c i j e old → AreAt c i j e new

-- each state stands for what its part of the epoch looks at
pub record StandFor (e : ℕ) (cores : Cores) (own : List Vote) (heard : List Hearing) : Type 0 where
  pub rbc : broadcast.Stands cores.rbc (filter (in_broadcast e) own) (filter (heard_in_broadcast e) heard)
  pub aba : standing.Stands cores.aba (filter (read_in_agreement e) own) (filter (heard_in_agreement e) heard)

-- nothing of the epoch was cast or heard
pub record IsUntouched (e : ℕ) (own : List Vote) (heard : List Hearing) : Type 0 where
  pub none_cast : filter (in_epoch e) own ≡ []
  pub none_heard : filter (heard_in_epoch e) heard ≡ []

-- what the cores of an epoch stand for; there are none before the first vote of the epoch
abbrev pub StandsAt : ℕ → Option Cores → List Vote → List Hearing → Type 0
StandsAt e None own heard = IsUntouched e own heard
StandsAt e (Some cores) own heard = StandFor e cores own heard

-- The cores hear a vote of their epoch: whatever they stood for, one pass over the slots of the broadcast makes `first` due,
-- and then the agreement owes `second`; and they stand for all of these.
pub record HearsOne (c : Numbers) (i j e : ℕ) (old new : Cores) (h : Hearing) (before after : List Vote) : Type 0 where
  pub first : List Vote
  pub second : List Vote
  pub due : after ≡ before ++ (first ++ second)
  pub passes : (own : List Vote) (heard : List Hearing) → StandFor e old own heard
      → pass (broadcast_slots c i j e) own (heard ++ h ∷ []) ≡ first
  pub owed : (own : List Vote) (heard : List Hearing) → StandFor e old own heard
      → IsOwed (agreement_slots c i j e) (own ++ first) (heard ++ h ∷ []) second
  pub stands : (own : List Vote) (heard : List Hearing) → StandFor e old own heard
      → StandFor e new (own ++ (first ++ second)) (heard ++ h ∷ [])

abbrev pub HearsInEpoch : Cores → Cores → Hearing → List Vote → List Vote → Type 0
HearsInEpoch old new h before after =
    (c : Numbers) (i j : ℕ) → AreAt c i j (epoch_of h.vote) old → HearsOne c i j (epoch_of h.vote) old new h before after

-- one of the nodes
abbrev pub IsNodeOf : Cores → ℕ → Type 0
IsNodeOf cores from = (from < (broadcast.place_of cores.rbc).config.n) × (from < (agreement.place_of cores.aba).config.n)

-- for how many votes the agreement asks for room
abbrev pub agreement_room : Cores → ℕ
agreement_room cores = 7 * (agreement.place_of cores.aba).config.rounds + 1

-- how many votes there may be by one vote that is heard: those of the agreement, and by one of the broadcast, or by a proposal,
-- n + 2 more
abbrev pub room_for : Cores → Vote → ℕ
room_for cores vote =
    if is_for_broadcast vote then agreement_room cores + (broadcast.place_of cores.rbc).config.n + 2 else agreement_room cores

-- they stand for whatever they stood for
pub record StandOn (old new : Cores) : Type 0 where
  pub stand : (e : ℕ) (own : List Vote) (heard : List Hearing) → StandFor e old own heard → StandFor e new own heard
