-- The completed codeword is one, and it is the only one with the given shards.
use Rattle.std.proofs.Common.{◌≡◌, ℕ, ◌<◌, ◌≤◌, Bool, true, false, ◌&&◌, ◌==◌, nat_lt, List, [], ◌∷◌, length, map, take, get_or, Some, None, refl, sym, ap, ap₂, ◌∙◌, subst, arith, eq-eqb}
use Rattle.std.specs.List.{All, slice_get, list_all, range_with_len}
use Rattle.std.proofs.Math.Nat.{zero-add}
use Rattle.std.proofs.lemmas.Bool.{eqb-true, ltb-true, lt-ltb}
use Rattle.std.proofs.lemmas.List.{get_or-map, get_or_default, take_all, length-take-le, get_or-take}
use Rattle.std.proofs.lemmas.List.Sums.{AllPass-from_list_all, list_all-from_AllPass}
use Rattle.std.proofs.lemmas.List.FromFn.{length-map-range_with_len, get_or-map-range_with_len}
use Rattle.std.proofs.lemmas.Option.{slice_get-get_or, get_or_from_slice_get}
use Rattle.hb_base.specs.ByteLists.{AreBytes}
use Rattle.gf_field.specs.Interpolation.{interpolation}
use Rattle.rs_shards.specs.Codeword.{IsCodeword, width_of}
use Rattle.rs_shards.specs.Rebuilding.{AreShards, IsRebuilt, other_length}
use Rattle.rs_shards.specs.Column.{indices_of, shard_at, column_of, AreEven}
use Rattle.rs_shards.specs.Completing.{are_even, completed_shard, completed}
use Rattle.rs_shards.proofs.Frames.{both}
use Rattle.rs_shards.proofs.Lengths.{none_differs}
use Rattle.rs_shards.proofs.Columns.{indices_of-distinct, indices_of-within, indices_of-bytes, length-indices, length-completed_shard, get_or-completed_shard, through, given-shard}
use Rattle.rs_shards.proofs.Unique.{codewords-agree, codeword-bytes}

-- ---- the test for even shards

pub AreEven-from_test : (got : List (ℕ × List ℕ)) → are_even got ≡ true → AreEven got
unfolding are_even
AreEven-from_test got h = record { equal = λ i l. eqb-true _ _ (parts i l).0; bytes = λ i l. bytes i l }
  where
    parts : (i : ℕ) → i < length got
        → ((length (shard_at got i) == length (shard_at got 0)) ≡ true) × (list_all (λ b. nat_lt b 256) (shard_at got i) ≡ true)
    parts i l =
        both _ _ (AllPass-from_list_all (λ x. length x.1 == length (shard_at got 0) && list_all (λ b. nat_lt b 256) x.1) got h i (0, []) l)

    bytes : (i : ℕ) → i < length got → AreBytes (shard_at got i)
    bytes i l k d lk = ltb-true _ 256 (AllPass-from_list_all (λ b. nat_lt b 256) (shard_at got i) (parts i l).1 k d lk)

pub are_even-is : (got : List (ℕ × List ℕ)) → AreEven got → are_even got ≡ true
unfolding are_even
are_even-is got h =
    list_all-from_AllPass (λ x. length x.1 == length (shard_at got 0) && list_all (λ b. nat_lt b 256) x.1) got (λ i d l.
    let passes : list_all (λ b. nat_lt b 256) (shard_at got i) ≡ true =
    list_all-from_AllPass (λ b. nat_lt b 256) (shard_at got i) (λ k e lk. lt-ltb _ 256 (h.bytes i l k e lk)) in
    subst (λ x. (length x.1 == length (shard_at got 0) && list_all (λ b. nat_lt b 256) x.1) ≡ true) (get_or_default got i (0, []) d l)
    (ap₂ (λ a b. a && b) (eq-eqb _ _ (h.equal i l)) passes))

-- shards of different lengths fail it
pub uneven : (got : List (ℕ × List ℕ)) (len : ℕ) → other_length got ≡ Some len → are_even got ≡ false
uneven got len differs = go (are_even got) refl
  where
    none : (got : List (ℕ × List ℕ)) → AreEven got → other_length got ≡ None
    none [] h = refl
    none (x ∷ got) h = none_differs (x ∷ got) (length x.1) h.equal

    go : (b : Bool) → b ≡ are_even got → are_even got ≡ false
    go true e = let no : None ≡ Some len = sym (none got (AreEven-from_test got (sym e))) ∙ differs in cc
    go false e = sym e

-- ---- the first of them

pub AreShards-take : (n k : ℕ) (got : List (ℕ × List ℕ)) → k ≤ length got → AreShards n got → AreShards n (take k got)
AreShards-take n k got enough h = record {
  distinct = λ i j d lt l.
      let lj : j < k = omega (arith, length-take-le k got enough) in
      let li : i < k = omega arith in
      λ e. h.distinct i j d lt (omega arith)
      (sym (ap (λ x. x.0) (get_or-take k got i d li)) ∙ e ∙ ap (λ x. x.0) (get_or-take k got j d lj));
  within = λ i d l.
      let li : i < k = omega (arith, length-take-le k got enough) in
      subst (λ x. x.0 < n) (sym (get_or-take k got i d li)) (h.within i d (omega arith));
}

-- what holds of all holds of the first
pub rebuilt-given : (n k : ℕ) (got : List (ℕ × List ℕ)) (shards : List (List ℕ)) → k ≤ length got → IsCodeword n k shards
    → All (λ x. slice_get shards x.0 ≡ Some x.1) got → IsRebuilt n k got shards
rebuilt-given n k got shards enough h given = record {
  codeword = h;
  given = λ i d l.
      let li : i < k = omega (arith, length-take-le k got enough) in
      subst (λ x. slice_get shards x.0 ≡ Some x.1) (sym (get_or-take k got i d li)) (given i d (omega arith));
}

pub completed-take : (n k : ℕ) (got : List (ℕ × List ℕ)) → completed n (length (take k got)) (take k got) ≡ completed n k got
unfolding completed
completed-take n k got =
    ap (λ xs. map (completed_shard xs) (range_with_len 0 n)) (take_all (length (take k got)) (take k got) (omega arith))

-- ---- the codeword through all of them

module _ (n : ℕ) (few : n ≤ 256) (got : List (ℕ × List ℕ)) (some : 0 < length got) (are : AreShards n got) (even : AreEven got) where
  n-some : 0 < n
  n-some = let below : (get_or got 0 (0, [])).0 < n = are.within 0 (0, []) some in omega arith

  shard-is : (m : ℕ) → m < n → get_or (map (completed_shard got) (range_with_len 0 n)) m [] ≡ completed_shard got m
  shard-is m l = get_or-map-range_with_len (completed_shard got) 0 n m m [] l (zero-add m)

  width-is : (m : ℕ) → m < n → length (get_or (map (completed_shard got) (range_with_len 0 n)) m []) ≡ length (shard_at got 0)
  width-is m l = ap length (shard-is m l) ∙ length-completed_shard got m

  through-codeword : IsCodeword n (length got) (map (completed_shard got) (range_with_len 0 n))
  through-codeword = record {
    count = length-map-range_with_len (completed_shard got) 0 n;
    width = λ m l. width-is m l ∙ sym (width-is 0 n-some);
    column = λ column lc.
        let inside : column < length (shard_at got 0) = omega (arith, width-is 0 n-some) in
        let h = through got (indices_of-bytes n got few are) (indices_of-distinct n got are) even column inside in (
          interpolation (indices_of got) (column_of got column),
          record { short = omega (arith, h.degree.short, length-indices got); bytes = h.degree.bytes },
          λ m l. sym (ap (λ s. get_or s column 0) (shard-is m l) ∙ get_or-completed_shard got m column inside),
        );
  }

  through-given : All (λ x. slice_get (map (completed_shard got) (range_with_len 0 n)) x.0 ≡ Some x.1) got
  through-given k d lk =
      let shards = map (completed_shard got) (range_with_len 0 n) in
      let x = get_or got k d in
      let same : get_or got k (0, []) ≡ x = get_or_default got k (0, []) d lk in
      let within : x.0 < n = are.within k d lk in
      let given : shard_at got k ≡ completed_shard got x.0 =
      given-shard got (indices_of-bytes n got few are) (indices_of-distinct n got are) even x.0 k lk (ap (λ y. y.0) same) in
      slice_get-get_or shards x.0 [] (omega (arith, length-map-range_with_len (completed_shard got) 0 n))
      ∙ ap Some (shard-is x.0 within ∙ sym given ∙ ap (λ y. y.1) same)

-- ---- the codeword through the first k

module _ (n k : ℕ) (some : 1 ≤ k) (few : n ≤ 256) (got : List (ℕ × List ℕ)) (enough : k ≤ length got) (are : AreShards n got) where
  count : length (take k got) ≡ k
  count = length-take-le k got enough

  pub completed-rebuilt : AreEven (take k got) → IsRebuilt n k got (completed n k got)
  unfolding completed
  completed-rebuilt even =
      let first = take k got in
      let first_some : 0 < length first = omega (arith, count) in
      let first_are = AreShards-take n k got enough are in
      record {
        codeword = subst (λ d. IsCodeword n d (map (completed_shard first) (range_with_len 0 n))) count (through-codeword n few first first_some first_are even);
        given = through-given n few first first_some first_are even;
      }

  module _ (shards : List (List ℕ)) (h : IsRebuilt n k got shards) where
    -- what was given is a shard of the codeword
    given-at : (i : ℕ) → i < k → shard_at (take k got) i ≡ get_or shards (get_or (take k got) i (0, [])).0 []
    given-at i l =
        let x = get_or (take k got) i (0, []) in
        sym (get_or_from_slice_get shards x.0 x.1 [] (h.given i (0, []) (omega (arith, count))))

    index-within : (i : ℕ) → i < k → (get_or (take k got) i (0, [])).0 < n
    index-within i l = (AreShards-take n k got enough are).within i (0, []) (omega (arith, count))

    width-at : (i : ℕ) → i < k → length (shard_at (take k got) i) ≡ width_of shards
    width-at i l = ap length (given-at i l) ∙ h.codeword.width (get_or (take k got) i (0, [])).0 (index-within i l)

    pub rebuilt-even : AreEven (take k got)
    rebuilt-even = record {
      equal = λ i l. let li : i < k = omega (arith, count) in width-at i li ∙ sym (width-at 0 (omega arith));
      bytes = λ i l.
          let li : i < k = omega (arith, count) in
          subst AreBytes (sym (given-at i li)) (codeword-bytes n k shards few h.codeword (get_or (take k got) i (0, [])).0 (index-within i li));
    }

    pub completed-only : shards ≡ completed n k got
    completed-only =
        let first = take k got in
        let first_are = AreShards-take n k got enough are in
        let r = completed-rebuilt rebuilt-even in
        codewords-agree n k shards (completed n k got) (indices_of first) some few h.codeword r.codeword (length-indices first ∙ count)
        (indices_of-distinct n first first_are) (indices_of-within n first first_are) (λ i d l.
        let li : i < length first = omega (arith, length-indices first) in
        let is : get_or (indices_of first) i d ≡ (get_or first i (0, [])).0 = get_or-map (λ x. x.0) first i (0, []) d li in
        subst (λ m. slice_get shards m ≡ slice_get (completed n k got) m) (sym is) (h.given i (0, []) li ∙ sym (r.given i (0, []) li)))
