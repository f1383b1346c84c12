-- Slots by two lists of hearings: where one makes no vote owed, so does the other.
use Rattle.std.proofs.Common.{◌≡◌, ◌↔◌, ℕ, ◌<◌, List, [], ◌∷◌, None}
use Rattle.std.specs.List.{AllByRecursion}
use Rattle.hb_rules.specs.Slots.{Slot, IsIdle, by_rows, of_epoch}
use Rattle.hb_rules.proofs.Lists.{AllByRecursion-parts, AllByRecursion-both}
use Rattle.hb_rules.proofs.Passing.{IsSettledAt, settled_if_cast, settled_if_none, settled_parts, pass_settled, settled_idle}
use Rattle.hb_rules.proofs.Rows.{by_rows-all, idle-epoch}

-- where the slot makes nothing of the one list, it makes nothing of the other
pub record IsCarried {V H : Type 0} (own : List V) (one other : List H) (slot : Slot V H) : Type 0 where
  pub none : slot.choice own one ≡ None → slot.choice own other ≡ None

pub idle_carried : {V H : Type 0} (slots : List (Slot V H)) (own : List V) (one other : List H) → AllByRecursion (IsCarried own one other) slots
    → IsIdle slots own one → IsIdle slots own other
idle_carried slots own one other carried idle =
    pass_settled slots own other
    (AllByRecursion-both (IsCarried own one other) (λ slot. IsSettledAt slot own one) (λ slot. IsSettledAt slot own other) slots
    (λ slot carries settled.
    settled_parts slot own one settled (IsSettledAt slot own other) (λ cast. settled_if_cast slot own other cast)
    (λ none. settled_if_none slot own other (carries.none none)))
    carried (settled_idle slots own one idle))

-- ---- slots of all epochs

-- what holds of the slots of each epoch below n holds of each row there
rows_of : {V H : Type 0} (P : Slot V H → Type 0) (n : ℕ) (rows : List (ℕ → List (Slot V H)))
    → ((k : ℕ) → k < n → AllByRecursion P (of_epoch k rows)) → AllByRecursion (λ row. (k : ℕ) → k < n → AllByRecursion P (row k)) rows
rows_of P n [] all = tt
rows_of P n (row ∷ rows) all = (
  λ k below. (AllByRecursion-parts P (row k) (of_epoch k rows) (all k below)).0,
  rows_of P n rows (λ k below. (AllByRecursion-parts P (row k) (of_epoch k rows) (all k below)).1),
)

-- nothing is owed exactly where no epoch owes anything
pub idle_epochs : {V H : Type 0} (n : ℕ) (rows : List (ℕ → List (Slot V H))) (own : List V) (heard : List H)
    → IsIdle (by_rows n rows) own heard ↔ ((k : ℕ) → k < n → IsIdle (of_epoch k rows) own heard)
idle_epochs n rows own heard = (
  λ idle. idle-epoch n rows own heard idle,
  λ all.
      pass_settled (by_rows n rows) own heard
      (by_rows-all (λ slot. IsSettledAt slot own heard) n rows
      (rows_of (λ slot. IsSettledAt slot own heard) n rows (λ k below. settled_idle (of_epoch k rows) own heard (all k below)))),
)
