-- Counting nodes that pass a test.
use Rattle.std.proofs.Common.{◌≡◌, ℕ, zero, suc, ◌+◌, ◌<◌, ◌≤◌, Bool, true, false, not, ◌&&◌, ◌||◌, ◌==◌, if◌then◌else◌, inl, inr, refl, ap, ◌∙◌, arith, add-zero}
use Rattle.std.proofs.lemmas.Bool.{and_parts, cases_lt, eqb-true, eq-eqb, false_from_ne_true}
use Rattle.hb_base.specs.Counting.{count_nodes}

-- where each that passes p passes q, p counts no more
pub count_nodes-mono : (n : ℕ) (p q : ℕ → Bool) → ((a : ℕ) → a < n → p a ≡ true → q a ≡ true) → count_nodes n p ≤ count_nodes n q
count_nodes-mono zero p q more = omega arith
count_nodes-mono (suc n) p q more =
    let below : count_nodes n p ≤ count_nodes n q = count_nodes-mono n p q (λ a h. more a (omega arith)) in
    step (p n) (q n) (more n (omega arith)) below
  where
    step : (b c : Bool) → (b ≡ true → c ≡ true) → count_nodes n p ≤ count_nodes n q
        → count_nodes n p + (if b then 1 else 0) ≤ count_nodes n q + (if c then 1 else 0)
    step true true h le = omega arith
    step true false h le = absurd (cc (h refl))
    step false true h le = omega arith
    step false false h le = omega arith

pub count_nodes-same : (n : ℕ) (p q : ℕ → Bool) → ((a : ℕ) → p a ≡ q a) → count_nodes n p ≡ count_nodes n q
count_nodes-same zero p q same = refl
count_nodes-same (suc n) p q same = rw (count_nodes-same n p q same, same n) refl

-- where none passes the test
pub count_nodes-none : (n : ℕ) (p : ℕ → Bool) → ((a : ℕ) → p a ≡ false) → count_nodes n p ≡ 0
count_nodes-none zero p none = refl
count_nodes-none (suc n) p none = rw (count_nodes-none n p none, none n) refl

-- a count over more nodes is no less
pub count_nodes-wider : (n m : ℕ) (p : ℕ → Bool) → n ≤ m → count_nodes n p ≤ count_nodes m p
count_nodes-wider n zero p le = rw (let none : n ≡ 0 = omega arith in none) (omega arith)
count_nodes-wider n (suc m) p le = elim (cases_lt m n) [
  | inl whole ↦ rw (let same : n ≡ suc m = omega arith in same) (omega arith)
  | inr below ↦ omega (arith, count_nodes-wider n m p below)
]

less_at : (b c : Bool) (k l m : ℕ) → k ≤ l + m
    → k + (if b then 1 else 0) ≤ (l + (if (b && not c) then 1 else 0)) + (m + (if c then 1 else 0))
less_at true true k l m le = omega arith
less_at true false k l m le = omega arith
less_at false true k l m le = omega arith
less_at false false k l m le = omega arith

-- those that pass p are no more than those that pass p and not l, and those that pass l
pub count_nodes-less : (n : ℕ) (p l : ℕ → Bool) → count_nodes n p ≤ count_nodes n (λ a. p a && not (l a)) + count_nodes n l
count_nodes-less zero p l = omega arith
count_nodes-less (suc n) p l = less_at (p n) (l n) (count_nodes n p) (count_nodes n (λ a. p a && not (l a))) (count_nodes n l) (count_nodes-less n p l)

member_here : (n : ℕ) (p : ℕ → Bool) (b : Bool) → p n ≡ b
    → (0 < count_nodes n p → (a : ℕ) × (a < n) × (p a ≡ true)) → 0 < count_nodes n p + (if b then 1 else 0) → (a : ℕ) × (a < suc n) × (p a ≡ true)
member_here n p true here below some = (n, omega arith, here)
member_here n p false here below some = let found = below (omega arith) in (found.0, omega (arith, found.1), found.2)

-- where some node is counted, one passes the test
pub member_from_count : (n : ℕ) (p : ℕ → Bool) → 0 < count_nodes n p → (a : ℕ) × (a < n) × (p a ≡ true)
member_from_count zero p some = absurd (omega arith)
member_from_count (suc n) p some = member_here n p (p n) refl (member_from_count n p) some

-- where more nodes pass the test than lie, one of them does not lie
pub correct_member : (n f : ℕ) (l p : ℕ → Bool) → count_nodes n l ≤ f → f < count_nodes n p → (a : ℕ) × (a < n) × (p a ≡ true) × (l a ≡ false)
correct_member n f l p few many =
    let found = member_from_count n (λ a. p a && not (l a)) (omega (arith, count_nodes-less n p l)) in
    let parts = and_parts (p found.0) (not (l found.0)) found.2 in
    (found.0, found.1, parts.0, not_true (l found.0) parts.1)
  where
    not_true : (b : Bool) → not b ≡ true → b ≡ false
    not_true true h = absurd (cc (h))
    not_true false h = refl

pub count_nodes-le : (n : ℕ) (p : ℕ → Bool) → count_nodes n p ≤ n
count_nodes-le zero p = omega arith
count_nodes-le (suc n) p = step (p n) (count_nodes-le n p)
  where
    step : (b : Bool) → count_nodes n p ≤ n → count_nodes n p + (if b then 1 else 0) ≤ suc n
    step true le = omega arith
    step false le = omega arith

both_at : (b c : Bool) (n k l m : ℕ) → k + l ≤ n + m
    → (k + (if b then 1 else 0)) + (l + (if c then 1 else 0)) ≤ suc n + (m + (if (b && c) then 1 else 0))
both_at true true n k l m le = omega arith
both_at true false n k l m le = omega arith
both_at false true n k l m le = omega arith
both_at false false n k l m le = omega arith

-- two counts together are no more than all nodes and those that pass both
pub count_nodes-and : (n : ℕ) (p q : ℕ → Bool) → count_nodes n p + count_nodes n q ≤ n + count_nodes n (λ a. p a && q a)
count_nodes-and zero p q = omega arith
count_nodes-and (suc n) p q = both_at (p n) (q n) n (count_nodes n p) (count_nodes n q) (count_nodes n (λ a. p a && q a)) (count_nodes-and n p q)

-- two quorums share a node that does not lie
pub shared_correct : (n f : ℕ) (l p q : ℕ → Bool) → count_nodes n l ≤ f → n + f < count_nodes n p + count_nodes n q
    → (a : ℕ) × (a < n) × (p a ≡ true) × (q a ≡ true) × (l a ≡ false)
shared_correct n f l p q few many =
    let found = correct_member n f l (λ a. p a && q a) few (omega (arith, count_nodes-and n p q)) in
    let parts = and_parts (p found.0) (q found.0) found.2 in
    (found.0, found.1, parts.0, parts.1, found.3)

same_below : (n node : ℕ) (old new : ℕ → Bool) → n ≤ node → ((a : ℕ) → new a ≡ ((a == node) || old a)) → count_nodes n new ≡ count_nodes n old
same_below zero node old new above adds = refl
same_below (suc n) node old new above adds =
    let same : new n ≡ old n = adds n ∙ ap (λ (b : Bool). b || old n) (false_from_ne_true (n == node) (λ e. omega (arith, eqb-true n node e))) in
    rw (same, same_below n node old new (omega arith) adds) refl

-- one node more
pub count_nodes-one : (n node : ℕ) (old new : ℕ → Bool) → node < n → old node ≡ false → ((a : ℕ) → new a ≡ ((a == node) || old a))
    → count_nodes n new ≡ count_nodes n old + 1
count_nodes-one zero node old new below empty adds = absurd (omega arith)
count_nodes-one (suc n) node old new below empty adds = elim (cases_lt node n) [
  | inl inside ↦
      let others : count_nodes n new ≡ count_nodes n old + 1 = count_nodes-one n node old new inside empty adds in
      let same : new n ≡ old n = adds n ∙ ap (λ (b : Bool). b || old n) (false_from_ne_true (n == node) (λ e. omega (arith, eqb-true n node e))) in
      rw (same, others) (by (old n))
  | inr at ↦
      let here : n ≡ node = omega arith in
      let now : new n ≡ true = adds n ∙ ap (λ (b : Bool). b || old n) (eq-eqb n node here) in
      let was : old n ≡ false = ap old here ∙ empty in
      let below_same : count_nodes n new ≡ count_nodes n old = same_below n node old new (omega arith) adds in
      rw (now, was, below_same) (omega arith)
]
  where
    by : (b : Bool) → (count_nodes n old + 1) + (if b then 1 else 0) ≡ (count_nodes n old + (if b then 1 else 0)) + 1
    by true = omega arith
    by false = omega arith

-- counting below m what none from n on has counts below n
pub count_nodes-above : (n m : ℕ) (p : ℕ → Bool) → n ≤ m → ((a : ℕ) → n ≤ a → p a ≡ false) → count_nodes m p ≡ count_nodes n p
count_nodes-above n zero p le none = ap (λ (k : ℕ). count_nodes k p) (let e : 0 ≡ n = omega arith in e)
count_nodes-above n (suc m) p le none = elim (cases_lt m n) [
  | inl whole ↦ ap (λ (k : ℕ). count_nodes k p) (let e : suc m ≡ n = omega arith in e)
  | inr below ↦ rw (none m below) (add-zero (count_nodes m p) ∙ count_nodes-above n m p below none)
]
