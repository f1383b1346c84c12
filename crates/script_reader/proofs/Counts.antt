-- Counting the nodes of a set that grows, and what stands for each number below another.
use Rattle.std.proofs.Common.{◌≡◌, ℕ, zero, suc, ◌+◌, ◌<◌, ◌≤◌, ◌==◌, ◌||◌, Bool, true, false, if◌then◌else◌, List, ◌++◌, replicate, refl}
use Rattle.std.proofs.Common.{sym, ap, ◌∙◌, arith, append_assoc, append-nil}
use Rattle.std.specs.List.{flat_map, range_with_len}
use Rattle.std.proofs.lemmas.Bool.{eqb-true}
use Rattle.hb_base.specs.Counting.{count_nodes}
use Rattle.hb_base.specs.Limits.{most_nodes}
use Rattle.hb_base.specs.NodeSet.{is_in}
use Rattle.script_reader.specs.Bounds.{HasAtMost}

lt-eqb : (a b : ℕ) → a < b → (a == b) ≡ false
lt-eqb a b below = by (a == b) refl
  where
    by : (c : Bool) → (a == b) ≡ c → c ≡ false
    by false is = refl
    by true is = absurd (omega (arith, below, eqb-true a b is))

-- a set with one more node: of the nodes up to that one as many are in it
count_below : (n : ℕ) (p q : ℕ → Bool) (node : ℕ) → n ≤ node → ((other : ℕ) → q other ≡ ((other == node) || p other)) → count_nodes n q ≡ count_nodes n p
count_below zero p q node below is = refl
count_below (suc n) p q node below is =
    let other : (n == node) ≡ false = lt-eqb n node (omega (arith, below)) in
    let same : q n ≡ p n = is n ∙ ap (λ b. b || p n) other in
    let rest : count_nodes n q ≡ count_nodes n p = count_below n p q node (omega (arith, below)) is in
    rw (same, rest) refl

-- and of all nodes at most one more
count_with : (n : ℕ) (p q : ℕ → Bool) (node : ℕ) → ((other : ℕ) → q other ≡ ((other == node) || p other)) → count_nodes n q ≤ count_nodes n p + 1
count_with zero p q node is = omega arith
count_with (suc n) p q node is = by (n == node) (count_with n p q node is) refl
  where
    at_most : (b : Bool) → (if b then 1 else 0) ≤ 1
    at_most true = omega arith
    at_most false = omega arith

    by : (b : Bool) → count_nodes n q ≤ count_nodes n p + 1 → (n == node) ≡ b → count_nodes n q + (if q n then 1 else 0) ≤ count_nodes n p + (if p n then 1 else 0) + 1
    by true rest here =
        let same : count_nodes n q ≡ count_nodes n p = count_below n p q node (omega (arith, eqb-true n node here)) is in
        omega (arith, same, at_most (q n))
    by false rest other =
        let same : q n ≡ p n = is n ∙ ap (λ b. b || p n) other in
        rw same (omega (arith, rest))

pub none_marked : HasAtMost 0 (replicate most_nodes false)
none_marked = record { few = omega arith }

pub one_more_marked : (before after : List Bool) (node most : ℕ) → HasAtMost most before
    → ((other : ℕ) → is_in after other ≡ ((other == node) || is_in before other)) → HasAtMost (most + 1) after
one_more_marked before after node most few is = record {
  few = omega (arith, few.few, count_with most_nodes (is_in before) (is_in after) node is);
}

pub one_more_known : (before after : List Bool) (node n : ℕ) → node < n → ((other : ℕ) → is_in before other ≡ true → other < n)
    → ((other : ℕ) → is_in after other ≡ ((other == node) || is_in before other)) → (other : ℕ) → is_in after other ≡ true → other < n
one_more_known before after node n below known is other here = by (other == node) refl (sym (is other) ∙ here)
  where
    by : (b : Bool) → (other == node) ≡ b → (b || is_in before other) ≡ true → other < n
    by true same _ = omega (arith, below, eqb-true other node same)
    by false _ old = known other old

-- what stands for each number from a on
flat_map_range : {A : Type 0} (f : ℕ → List A) (a n j : ℕ) → a + n ≡ j → flat_map f (range_with_len a (n + 1)) ≡ flat_map f (range_with_len a n) ++ f j
flat_map_range f a zero j is =
    let e : a ≡ j = omega (arith, is) in
    append-nil (f a) ∙ ap f e
flat_map_range f a (suc n) j is =
    let two : suc n + 1 ≡ suc (suc n) = omega arith in
    let one : suc n ≡ n + 1 = omega arith in
    ap (λ k. flat_map f (range_with_len a k)) two
    ∙ ap (λ k. f a ++ flat_map f (range_with_len (a + 1) k)) one
    ∙ ap (λ rest. f a ++ rest) (flat_map_range f (a + 1) n j (omega (arith, is)))
    ∙ sym (append_assoc (f a) (flat_map f (range_with_len (a + 1) n)) (f j))

pub flat_map_step : {A : Type 0} (f : ℕ → List A) (k : ℕ) (front before after : List A)
    → before ≡ front ++ flat_map f (range_with_len 0 k) → after ≡ before ++ f k → after ≡ front ++ flat_map f (range_with_len 0 (k + 1))
flat_map_step f k front before after so_far more =
    more ∙ ap (λ xs. xs ++ f k) so_far ∙ append_assoc front (flat_map f (range_with_len 0 k)) (f k)
    ∙ ap (λ xs. front ++ xs) (sym (flat_map_range f 0 k k (omega arith)))
