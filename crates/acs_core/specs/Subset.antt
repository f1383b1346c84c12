-- What the state of a common subset stands for: the votes that its desk has cast and those that it has heard.
use Rattle.std.specs.Prelude.{◌≡◌, ℕ, ◌-◌, ◌<◌, Bool, not, ◌&&◌, true, ◌==◌, nat_le, List, [], ◌∷◌, ◌++◌, replicate}
use Rattle.std.specs.List.{list_any}
use Rattle.std.specs.Option.{option_or, option_to_list}
use Rattle.hb_base.specs.Counting.{count_nodes}
use Rattle.hb_base.specs.Numbers.{Numbers}
use Rattle.hb_wire.specs.declared.vote.Vote.{Vote}
use Rattle.hb_wire.specs.declared.vote.Vote.TheVariants.{NoMore}
use Rattle.hb_wire.specs.Votes.{epoch_of}
use Rattle.hb_rules.specs.Claims.{decided, delivered, is_bit, is_no_more}
use Rattle.hb_rules.specs.DeskRows.{claimed_by, decision_of, delivery_of, no_more_slot}
use Rattle.hb_rules.specs.Hearing.{Hearing}
use Rattle.hb_rules.specs.Slots.{Slot, when, IsIdle, IsOwed}
use Rattle.acs_core.specs.declared.shown.Shown.{Shown}
use Rattle.acs_core.specs.Shown.{nothing, shown_at}

-- which epoch at which node
pub record NodeEpoch : Type 0 where
  pub config : Numbers
  pub node : ℕ
  pub epoch : ℕ

-- which epoch it is, whether NoMore is cast, and what the lanes have shown
pub record AcsView : Type 0 where
  pub config : Numbers
  pub node : ℕ
  pub epoch : ℕ
  pub is_no_more_cast : Bool
  pub lanes : List Shown

-- the epoch that a state is of
abbrev pub node_epoch_of : AcsView → NodeEpoch
node_epoch_of a = record { config = a.config; node = a.node; epoch = a.epoch }

-- the state that has heard nothing
abbrev pub fresh : Numbers → ℕ → ℕ → Bool → AcsView
fresh c i e cast = record { config = c; node = i; epoch = e; is_no_more_cast = cast; lanes = replicate c.n nothing }

-- what its desk owes before the epoch is closed
abbrev pub slots_at : NodeEpoch → List (Slot Vote Hearing)
slots_at p = no_more_slot p.config p.epoch ∷ []

-- hearings that it looks at
abbrev pub heard_in_subset : ℕ → Hearing → Bool
heard_in_subset e h = epoch_of h.vote == e

-- The state stands for what was cast and heard: nothing is owed, its mark is of what was cast, and what it has of each lane
-- is the first decision and the first delivery that were heard of it.
pub record Stands (a : AcsView) (own : List Vote) (heard : List Hearing) : Type 0 where
  pub idle : IsIdle (slots_at (node_epoch_of a)) own heard
  pub cast : a.is_no_more_cast ≡ list_any (is_no_more a.epoch) own
  pub decisions : (j : ℕ) → j < a.config.n → (shown_at a.lanes j).decision ≡ decision_of a.epoch heard j
  pub values : (j : ℕ) → j < a.config.n → (shown_at a.lanes j).value ≡ delivery_of a.epoch heard j

-- The state hears one vote more. NoMore alone may become due. Whatever the state stood for, NoMore becomes due exactly
-- where it is owed then, and the state stands for all of these.
pub record Hears (old new : AcsView) (h : Hearing) (before after : List Vote) : Type 0 where
  pub node_epoch : node_epoch_of new ≡ node_epoch_of old
  pub is_due : Bool
  pub due : after ≡ before ++ option_to_list (when is_due (NoMore old.epoch))
  pub owed : (own : List Vote) (heard : List Hearing) → Stands old own heard
      → IsOwed (slots_at (node_epoch_of old)) own (heard ++ h ∷ []) (option_to_list (when is_due (NoMore old.epoch)))
  pub stands : (own : List Vote) (heard : List Hearing) → Stands old own heard
      → Stands new (own ++ option_to_list (when is_due (NoMore old.epoch))) (heard ++ h ∷ [])

-- whether enough lanes have decided 1, and NoMore is not cast
abbrev pub is_no_more_due : AcsView → Bool
is_no_more_due a = not a.is_no_more_cast && nat_le (a.config.n - a.config.f) (count_nodes a.config.n (λ j. is_bit true (shown_at a.lanes j).decision))

-- each lane has shown what it had, or what this hearing shows first
pub record Notes (e n : ℕ) (old new : List Shown) (h : Hearing) : Type 0 where
  pub decisions : (j : ℕ) → j < n → (shown_at new j).decision ≡ option_or (shown_at old j).decision (claimed_by j (decided e) h)
  pub values : (j : ℕ) → j < n → (shown_at new j).value ≡ option_or (shown_at old j).value (claimed_by j (delivered e) h)
