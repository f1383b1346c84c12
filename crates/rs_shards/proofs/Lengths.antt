-- The first length that differs.
use Rattle.std.proofs.Common.{◌≡◌, ◌≢◌, ℕ, zero, suc, ◌<◌, Bool, true, false, not, cond, ◌==◌, List, [], ◌∷◌, length, get_or, Some, None, find, refl, sym, ap, ◌∙◌, arith, eq-eqb}
use Rattle.std.proofs.lemmas.List.{get_or-map}
use Rattle.std.proofs.lemmas.Bool.{eqb-true}
use Rattle.rs_shards.specs.Rebuilding.{lengths}
use Rattle.rs_shards.specs.Column.{shard_at}

-- a test for another number
abbrev differs : ℕ → ℕ → Bool
differs a len = not (len == a)

differs-same : (a len : ℕ) → len ≡ a → differs a len ≡ false
differs-same a len e = ap not (eq-eqb len a e)

differs-other : (a len : ℕ) → len ≢ a → differs a len ≡ true
differs-other a len ne = go (len == a) refl
  where
    go : (b : Bool) → b ≡ (len == a) → not (len == a) ≡ true
    go true e = absurd (ne (eqb-true len a (sym e)))
    go false e = ap not (sym e)

pub none_differs : (got : List (ℕ × List ℕ)) (a : ℕ) → ((i : ℕ) → i < length got → length (shard_at got i) ≡ a) → find (differs a) (lengths got) ≡ None
none_differs [] a h = refl
none_differs (x ∷ got) a h =
    ap (λ b. cond b (Some (length x.1)) (find (differs a) (lengths got))) (differs-same a (length x.1) (h 0 (omega arith)))
    ∙ none_differs got a (λ i l. h (suc i) (omega arith))

pub one_differs : (got : List (ℕ × List ℕ)) (a i : ℕ) → i < length got → ((j : ℕ) → j < i → length (shard_at got j) ≡ a) → length (shard_at got i) ≢ a
    → find (differs a) (lengths got) ≡ Some (length (shard_at got i))
one_differs [] a i l h ne = absurd (omega arith)
one_differs (x ∷ got) a zero l h ne =
    ap (λ b. cond b (Some (length x.1)) (find (differs a) (lengths got))) (differs-other a (length x.1) ne)
one_differs (x ∷ got) a (suc i) l h ne =
    ap (λ b. cond b (Some (length x.1)) (find (differs a) (lengths got))) (differs-same a (length x.1) (h 0 (omega arith)))
    ∙ one_differs got a i (omega arith) (λ j lj. h (suc j) (omega arith)) ne

pub first_length : (got : List (ℕ × List ℕ)) → 0 < length got → get_or (lengths got) 0 0 ≡ length (shard_at got 0)
first_length got some = get_or-map (λ x. length x.1) got 0 (0, []) 0 some
