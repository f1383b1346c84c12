-- Votes that may be cast one after another, and slots whose choice does not look at what was cast; for any kind of votes.
use Rattle.std.specs.Prelude.{◌≡◌, false, List, [], ◌∷◌, ◌++◌, Some}
use Rattle.hb_rules.specs.Slots.{Slot, IsGuarded}

-- a guarded slot whose choice does not look at what was cast
pub record IsPlain {V H : Type 0} (slot : Slot V H) : Type 0 where
  pub guarded : IsGuarded slot
  pub free : (own other : List V) (heard : List H) → slot.choice own heard ≡ slot.choice other heard

-- votes of which each may be cast after those before it
abbrev pub InTurn : {V : Type 0} → (List V → V → Type 0) → List V → List V → Type 0
InTurn May own [] = Unit {0}
InTurn May own (vote ∷ votes) = May own vote × InTurn May (own ++ vote ∷ []) votes

-- the vote of an empty slot may be cast
pub record IsAllowedBy {V H : Type 0} (May : List V → V → Type 0) (heard : List H) (slot : Slot V H) : Type 0 where
  pub allowed : (own : List V) (vote : V) → slot.is_cast own ≡ false → slot.choice own heard ≡ Some vote → May own vote
