-- Lists that are put together of lists.
use Rattle.std.proofs.Common.{ℕ, zero, suc, ◌+◌, ◌<◌, ◌≤◌, List, [], ◌∷◌, ◌++◌, length, flat_map, All, AllPairs, arith}
use Rattle.std.specs.List.{range_with_len}
use Rattle.std.proofs.lemmas.List.Elements.{All-nil, All-head, All-tail, All-append}
use Rattle.std.proofs.lemmas.List.Kept.{AllPairs-cons}

module _ {X : Type 0} (R : X → X → Type 0) where
  pub pairs_append : (xs ys : List X) → AllPairs R xs → AllPairs R ys → All (λ x. All (R x) ys) xs → AllPairs R (xs ++ ys)
  pairs_append [] ys first second across = second
  pairs_append (x ∷ xs) ys first second across =
      AllPairs-cons R x (xs ++ ys)
      (All-append (R x) xs ys (λ j d within. first 0 (suc j) d (omega arith) (omega (arith, within))) (All-head (λ y. All (R y) ys) x xs across))
      (pairs_append xs ys (λ i j d before within. first (suc i) (suc j) d (omega (arith, before)) (omega (arith, within))) second (All-tail (λ y. All (R y) ys) x xs across))

module _ {X : Type 0} (f : ℕ → List X) where
  -- what holds of the list at each number holds of all together
  pub all_flat_map : (P : X → Type 0) (a n : ℕ) → ((j : ℕ) → a ≤ j → j < a + n → All P (f j)) → All P (flat_map f (range_with_len a n))
  all_flat_map P a zero each = All-nil P
  all_flat_map P a (suc n) each =
      All-append P (f a) (flat_map f (range_with_len (a + 1) n)) (each a (omega arith) (omega arith))
      (all_flat_map P (a + 1) n (λ j low high. each j (omega (arith, low)) (omega (arith, high))))

  pub pairs_flat_map : (R : X → X → Type 0) (a n : ℕ) → ((j : ℕ) → a ≤ j → j < a + n → AllPairs R (f j))
      → ((i j : ℕ) → i < j → All (λ x. All (R x) (f j)) (f i)) → AllPairs R (flat_map f (range_with_len a n))
  pairs_flat_map R a zero each across = λ i j d before within. absurd (omega (arith, before, within))
  pairs_flat_map R a (suc n) each across =
      pairs_append R (f a) (flat_map f (range_with_len (a + 1) n)) (each a (omega arith) (omega arith))
      (pairs_flat_map R (a + 1) n (λ j low high. each j (omega (arith, low)) (omega (arith, high))) across)
      (λ i d within. all_flat_map (R _) (a + 1) n (λ j low high. across a j (omega (arith, low)) i d within))
