-- Columns of given shards, and the shards of the codeword through them.
use Rattle.std.proofs.Common.{◌≡◌, ℕ, ◌<◌, ◌≤◌, List, [], length, get_or, Fits, w8, sym, ap, ◌∙◌, subst, arith}
use Rattle.std.specs.List.{All}
use Rattle.std.proofs.Math.Nat.{zero-add}
use Rattle.std.proofs.lemmas.List.{length-map, get_or-map, get_or_default}
use Rattle.std.proofs.lemmas.List.FromFn.{length-map-range_with_len, get_or-map-range_with_len, fill_by_all}
use Rattle.hb_base.specs.ByteLists.{AreBytes}
use Rattle.gf_field.specs.Polynomial.{polynomial_at, AreDistinct, AreWeightsAt, Interpolates, sum_of_products}
use Rattle.gf_field.specs.Interpolation.{interpolation}
use Rattle.gf_field.proofs.Interpolation.{interpolation-interpolates, weighted}
use Rattle.rs_shards.specs.Rebuilding.{AreShards}
use Rattle.rs_shards.specs.Column.{indices_of, shard_at, column_of, AreEven}
use Rattle.rs_shards.specs.Completing.{completed_shard}

-- the i-th index
abbrev pub index_at : List (ℕ × List ℕ) → ℕ → ℕ
index_at got i = (get_or got i (0, [])).0

-- bytes, place by place
pub AreBytes-of : (xs : List ℕ) → ((i : ℕ) → Fits w8 (get_or xs i 0)) → AreBytes xs
AreBytes-of xs h k d l = subst (λ x. x < 256) (get_or_default xs k 0 d l) (h k).fits

pub shard_at-read : (got : List (ℕ × List ℕ)) (i : ℕ) (x : ℕ × List ℕ) → i < length got → x ≡ get_or got i x → x.1 ≡ shard_at got i
shard_at-read got i x l is = ap (λ y. y.1) (is ∙ get_or_default got i x (0, []) l)

pub get_or-indices_of : (got : List (ℕ × List ℕ)) (i : ℕ) → i < length got → get_or (indices_of got) i 0 ≡ index_at got i
get_or-indices_of got i l = get_or-map (λ x. x.0) got i (0, []) 0 l

pub get_or-column_of : (got : List (ℕ × List ℕ)) (column i : ℕ) → i < length got → get_or (column_of got column) i 0 ≡ get_or (shard_at got i) column 0
get_or-column_of got column i l = get_or-map (λ x. get_or x.1 column 0) got i (0, []) 0 l

pub length-column_of : (got : List (ℕ × List ℕ)) (column : ℕ) → length (column_of got column) ≡ length got
length-column_of got column = length-map got (λ (x : ℕ × List ℕ). get_or x.1 column 0)

pub length-indices : (got : List (ℕ × List ℕ)) → length (indices_of got) ≡ length got
length-indices got = length-map got (λ (x : ℕ × List ℕ). x.0)

pub indices_of-distinct : (n : ℕ) (got : List (ℕ × List ℕ)) → AreShards n got → AreDistinct (indices_of got)
indices_of-distinct n got h i j d lt l =
    let lj : j < length got = omega (arith, length-indices got) in
    let li : i < length got = omega arith in
    λ e. h.distinct i j (0, []) lt lj
    (sym (get_or-map (λ x. x.0) got i (0, []) d li) ∙ e ∙ get_or-map (λ x. x.0) got j (0, []) d lj)

pub indices_of-within : (n : ℕ) (got : List (ℕ × List ℕ)) → AreShards n got → All (λ m. m < n) (indices_of got)
indices_of-within n got h k d l =
    let lk : k < length got = omega (arith, length-indices got) in
    subst (λ x. x < n) (sym (get_or-map (λ x. x.0) got k (0, []) d lk)) (h.within k (0, []) lk)

pub indices_of-bytes : (n : ℕ) (got : List (ℕ × List ℕ)) → n ≤ 256 → AreShards n got → AreBytes (indices_of got)
indices_of-bytes n got few h k d l = let below : get_or (indices_of got) k d < n = indices_of-within n got h k d l in omega arith

pub column_of-bytes : (got : List (ℕ × List ℕ)) → AreEven got → (column : ℕ) → column < length (shard_at got 0) → AreBytes (column_of got column)
column_of-bytes got h column lc k d l =
    let lk : k < length got = omega (arith, length-column_of got column) in
    let inside : column < length (shard_at got k) = omega (arith, h.equal k lk) in
    subst (λ x. x < 256) (sym (get_or-map (λ x. get_or x.1 column 0) got k (0, []) d lk)) (h.bytes k lk column 0 inside)

-- ---- a shard of the codeword, column by column

pub length-completed_shard : (got : List (ℕ × List ℕ)) (m : ℕ) → length (completed_shard got m) ≡ length (shard_at got 0)
unfolding completed_shard
length-completed_shard got m =
    length-map-range_with_len (λ column. polynomial_at (interpolation (indices_of got) (column_of got column)) m) 0 (length (shard_at got 0))

pub get_or-completed_shard : (got : List (ℕ × List ℕ)) (m column : ℕ) → column < length (shard_at got 0)
    → get_or (completed_shard got m) column 0 ≡ polynomial_at (interpolation (indices_of got) (column_of got column)) m
unfolding completed_shard
get_or-completed_shard got m column l =
    get_or-map-range_with_len (λ column. polynomial_at (interpolation (indices_of got) (column_of got column)) m)
    0 (length (shard_at got 0)) column column 0 l (zero-add column)

pub is_completed_shard : (got : List (ℕ × List ℕ)) (m : ℕ) (shard : List ℕ) → length shard ≡ length (shard_at got 0)
    → ((column : ℕ) → column < length (shard_at got 0) → get_or shard column 0 ≡ polynomial_at (interpolation (indices_of got) (column_of got column)) m)
    → shard ≡ completed_shard got m
unfolding completed_shard
is_completed_shard got m shard width values =
    fill_by_all (λ column. polynomial_at (interpolation (indices_of got) (column_of got column)) m) shard (length (shard_at got 0)) 0 width values

module _ (got : List (ℕ × List ℕ)) (points_bytes : AreBytes (indices_of got)) (apart : AreDistinct (indices_of got)) (even : AreEven got) where
  columns-long : (column : ℕ) → length (indices_of got) ≡ length (column_of got column)
  columns-long column = length-indices got ∙ sym (length-column_of got column)

  pub through : (column : ℕ) → column < length (shard_at got 0)
      → Interpolates (indices_of got) (column_of got column) (interpolation (indices_of got) (column_of got column))
  through column lc =
      interpolation-interpolates (indices_of got) points_bytes apart (column_of got column) (column_of-bytes got even column lc) (columns-long column)

  -- a given shard stands at its index
  pub given-shard : (m j : ℕ) → j < length got → index_at got j ≡ m → shard_at got j ≡ completed_shard got m
  given-shard m j lj e = is_completed_shard got m (shard_at got j) (even.equal j lj) (λ column lc.
      let lp : j < length (indices_of got) = omega (arith, length-indices got) in
      let cs = interpolation (indices_of got) (column_of got column) in
      sym (get_or-column_of got column j lj) ∙ sym ((through column lc).passes j lp) ∙ ap (polynomial_at cs) (get_or-indices_of got j lj ∙ e))

  -- a shard is the sum of the given ones, each times its weight
  pub combined-shard : (m : ℕ) (shard weights : List ℕ) → m < 256
      → length shard ≡ length (shard_at got 0) → length weights ≡ length got → AreWeightsAt m (indices_of got) weights
      → ((column : ℕ) → column < length (shard_at got 0) → get_or shard column 0 ≡ sum_of_products weights (column_of got column))
      → shard ≡ completed_shard got m
  combined-shard m shard weights hm width long are_weights sums = is_completed_shard got m shard width (λ column lc.
      sums column lc
      ∙ sym (weighted (indices_of got) points_bytes apart (column_of got column) (column_of-bytes got even column lc) (columns-long column)
      weights m hm are_weights (long ∙ sym (length-indices got)) (interpolation (indices_of got) (column_of got column)) (through column lc)))
