-- What calls do to the state of an agreement.
use Rattle.std.specs.Prelude.{◌≡◌, ◌≢◌, ◌⊎◌, ℕ, ◌+◌, ◌<◌, ◌≤◌, ◌||◌, true, false, List, [], ◌∷◌, ◌++◌, length, Option, None, is_some, unwrap_or, IfSome}
use Rattle.hb_wire.specs.declared.vote.Vote.{Vote}
use Rattle.hb_rules.specs.declared.agreement_slot.AgreementSlot.{AgreementSlot}
use Rattle.hb_rules.specs.Hearing.{Hearing}
use Rattle.hb_rules.specs.Claims.{is_no_more}
use Rattle.hb_rules.specs.Marks.{Mark, any_est, bears}
use Rattle.hb_rules.specs.Room.{DueView, KeepsRoom}
use Rattle.hb_rules.specs.Slots.{pass, passes, IsOwed}
use Rattle.aba_core.specs.State.{AbaView, place_of, round_in, mark_round, mark_at}
use Rattle.aba_core.specs.Standing.{slots_at, Shows, Stands}
use Rattle.aba_core.specs.Rows.{names_of, slots_for, RestsBelow, room_of}

-- a vote is marked, and nothing else changes
pub record Casts (old new : AbaView) (vote : Vote) : Type 0 where
  pub place : place_of new ≡ place_of old
  pub marks : (mark : Mark) → mark_round mark < old.config.rounds → mark_at new mark ≡ (bears old.epoch mark vote || mark_at old mark)
  pub rounds : (r : ℕ) → round_in new r ≡ record (round_in old r) { marks = (round_in new r).marks }
  pub no_more : new.no_more ≡ old.no_more

-- the own desk wants no more lanes, and no estimate of round 0 is cast
pub record MayBegin (a : AbaView) (h : Hearing) (r : ℕ) : Type 0 where
  pub first : r ≡ 0
  pub own : h.from ≡ a.node
  pub no_more : is_no_more a.epoch h.vote ≡ true
  pub waits : mark_at a (any_est 0) ≡ false

-- by the hearing a count of the round is at another level, or its coin has become known, or the lane may begin
abbrev pub Wakes : AbaView → AbaView → Hearing → ℕ → Type 0
Wakes old new h r =
    ((round_in new r).levels ≢ (round_in old r).levels)
    ⊎ (((is_some (round_in new r).coin ≡ true) × ((round_in old r).coin ≡ None)) ⊎ MayBegin old h r)

-- The state takes in a hearing, and casts nothing. Where the slots before a round rested, or all where none is given, they
-- still do. A round is given only where the hearing wakes it.
pub record Notes (old new : AbaView) (h : Hearing) (round : Option ℕ) : Type 0 where
  pub place : place_of new ≡ place_of old
  pub known : IfSome round (λ r. r < old.config.rounds)
  pub shows : (own : List Vote) (heard : List Hearing) → Shows old own heard → Shows new own (heard ++ h ∷ [])
  pub resting : RestsBelow old (unwrap_or round old.config.rounds) → RestsBelow new (unwrap_or round old.config.rounds)
  pub wakes : IfSome round (Wakes old new h)

-- Votes are cast, for which there is room, and fill as many limits.
pub record Adds (old new : AbaView) (before after : DueView) (votes : List Vote) : Type 0 where
  pub place : place_of new ≡ place_of old
  pub due : after.votes ≡ before.votes ++ votes
  pub spare : after.spare + length votes ≡ before.spare
  pub room : room_of new + length votes ≤ room_of old
  pub shows : (own : List Vote) (heard : List Hearing) → Shows old own heard → Shows new (own ++ votes) heard

-- The slots with these names are gone through once, where all before a round rest.
pub record Passed (from : ℕ) (old new : AbaView) (names : List AgreementSlot) (before after : DueView) : Type 0 where
  pub votes : List Vote
  pub adds : Adds old new before after votes
  pub resting : RestsBelow old from → RestsBelow new from
  pub owed : RestsBelow old from → (own : List Vote) (heard : List Hearing) → Shows old own heard → pass (slots_for (place_of old) names) own heard ≡ votes

-- all slots are gone through some times
pub record PassedTimes (from : ℕ) (old new : AbaView) (before after : DueView) : Type 0 where
  pub count : ℕ
  pub votes : List Vote
  pub adds : Adds old new before after votes
  pub resting : RestsBelow old from → RestsBelow new from
  pub owed : RestsBelow old from → (own : List Vote) (heard : List Hearing) → Shows old own heard
      → passes count (slots_for (place_of old) (names_of old.config)) own heard ≡ votes

-- all that is owed is cast
pub record Settled (from : ℕ) (old new : AbaView) (before after : DueView) : Type 0 where
  pub votes : List Vote
  pub place : place_of new ≡ place_of old
  pub due : after.votes ≡ before.votes ++ votes
  pub room : KeepsRoom before after
  pub owed : RestsBelow old from → (own : List Vote) (heard : List Hearing) → Shows old own heard → IsOwed (slots_at (place_of old)) own heard votes
  pub stands : RestsBelow old from → (own : List Vote) (heard : List Hearing) → Shows old own heard → Stands new (own ++ votes) heard
