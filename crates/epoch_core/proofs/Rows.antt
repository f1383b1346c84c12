-- Rows of one slot for each epoch, gone through epoch by epoch.
use Rattle.std.proofs.Common.{◌≡◌, ℕ, zero, suc, ◌<◌, ◌≤◌, List, [], ◌∷◌, ◌++◌, inl, inr, ap, ◌∙◌, append-nil, arith}
use Rattle.std.proofs.lemmas.Bool.{cases_lt}
use Rattle.hb_rules.specs.Slots.{Slot, pass, owes, each, IsIdle}
use Rattle.hb_rules.proofs.Lists.{AllByRecursion-each}
use Rattle.hb_rules.proofs.Passing.{pass-append, IsSettledAt, pass_settled}

-- the slots of the epochs below n
abbrev pub row_of : {V H : Type 0} → (ℕ → Slot V H) → ℕ → List (Slot V H)
row_of row n = each n (λ e. row e ∷ [])

-- settled slots make nothing owed
pub row_settled : {V H : Type 0} (row : ℕ → Slot V H) (n : ℕ) (own : List V) (heard : List H)
    → ((e : ℕ) → e < n → IsSettledAt (row e) own heard) → IsIdle (row_of row n) own heard
row_settled row n own heard settled =
    pass_settled (row_of row n) own heard
    (AllByRecursion-each (λ slot. IsSettledAt slot own heard) n (λ e. row e ∷ []) (λ e below. (settled e below, tt)))

-- one epoch more
pub row_more : {V H : Type 0} (row : ℕ → Slot V H) (n : ℕ) (own : List V) (heard : List H) (votes : List V) → pass (row_of row n) own heard ≡ votes
    → pass (row_of row (suc n)) own heard ≡ votes ++ owes (row n) (own ++ votes) heard
row_more {V} row n own heard votes is =
    pass-append (row_of row n) (row n ∷ []) own heard
    ∙ ap (λ (vs : List V). vs ++ pass (row n ∷ []) (own ++ vs) heard) is
    ∙ ap (λ (vs : List V). votes ++ vs) (append-nil (owes (row n) (own ++ votes) heard))

-- epochs whose slots are settled add nothing
pub row_extends : {V H : Type 0} (row : ℕ → Slot V H) (j n : ℕ) (own : List V) (heard : List H) (votes : List V) → j ≤ n
    → pass (row_of row j) own heard ≡ votes → ((e : ℕ) → j ≤ e → e < n → IsSettledAt (row e) (own ++ votes) heard)
    → pass (row_of row n) own heard ≡ votes
row_extends row j zero own heard votes le is settled =
    ap (λ (k : ℕ). pass (row_of row k) own heard) (let same : 0 ≡ j = omega arith in same) ∙ is
row_extends {V} row j (suc n) own heard votes le is settled = elim (cases_lt n j) [
  | inl whole ↦ ap (λ (k : ℕ). pass (row_of row k) own heard) (let same : suc n ≡ j = omega arith in same) ∙ is
  | inr within ↦
      row_more row n own heard votes
      (row_extends row j n own heard votes within is (λ e above below. settled e above (omega arith)))
      ∙ ap (λ (vs : List V). votes ++ vs) ((settled n within (omega arith)).none) ∙ append-nil votes
]

-- three lists of slots, one after the other
pub pass_three : {V H : Type 0} (a b c : List (Slot V H)) (own : List V) (heard : List H) (xs ys zs : List V)
    → pass a own heard ≡ xs → pass b (own ++ xs) heard ≡ ys → pass c ((own ++ xs) ++ ys) heard ≡ zs
    → pass (a ++ (b ++ (c ++ []))) own heard ≡ xs ++ (ys ++ zs)
pass_three {V} a b c own heard xs ys zs first second third =
    pass-append a (b ++ (c ++ [])) own heard
    ∙ ap (λ (vs : List V). vs ++ pass (b ++ (c ++ [])) (own ++ vs) heard) first
    ∙ ap (λ (vs : List V). xs ++ vs)
    (pass-append b (c ++ []) (own ++ xs) heard
    ∙ ap (λ (vs : List V). vs ++ pass (c ++ []) ((own ++ xs) ++ vs) heard) second
    ∙ ap (λ (vs : List V). ys ++ vs)
    (pass-append c [] ((own ++ xs) ++ ys) heard ∙ append-nil (pass c ((own ++ xs) ++ ys) heard) ∙ third))
