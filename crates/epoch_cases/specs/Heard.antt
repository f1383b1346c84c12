-- What a desk comes to that hears two votes, one after the other.
use Rattle.std.specs.Prelude.{◌≡◌, List, [], ◌∷◌, ◌++◌, ℕ}
use Rattle.hb_wire.specs.declared.vote.Vote.{Vote}
use Rattle.hb_rules.specs.Hearing.{Hearing}
use Rattle.hb_rules.specs.Owing.{desk_slots}
use Rattle.hb_rules.specs.Slots.{IsOwed}
use Rattle.epoch_core.specs.Epochs.{EpochsView, Stands}

-- At each of the two hearings the votes become due that are owed then, those of the first before those of the second, and the
-- state stands for all that was cast and heard.
pub record HearsTwo (old new : EpochsView) (one two : Hearing) (before after : List Vote) : Type 0 where
  pub first : List Vote
  pub second : List Vote
  pub due : after ≡ (before ++ first) ++ second
  pub owed_first : (submitted : List (List ℕ)) (own : List Vote) (heard : List Hearing) → Stands old submitted own heard
      → IsOwed (desk_slots old.config submitted) own (heard ++ one ∷ []) first
  pub owed_second : (submitted : List (List ℕ)) (own : List Vote) (heard : List Hearing) → Stands old submitted own heard
      → IsOwed (desk_slots old.config submitted) (own ++ first) ((heard ++ one ∷ []) ++ two ∷ []) second
  pub stands : (submitted : List (List ℕ)) (own : List Vote) (heard : List Hearing) → Stands old submitted own heard
      → Stands new submitted ((own ++ first) ++ second) ((heard ++ one ∷ []) ++ two ∷ [])
