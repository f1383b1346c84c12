-- A frame and its pieces.
use Rattle.std.proofs.Common.{◌≡◌, ℕ, zero, suc, ◌+◌, ◌-◌, ◌*◌, ◌/◌, ◌%◌, ◌<◌, ◌≤◌, List, [], ◌∷◌, ◌++◌, length, get_or, take, drop, replicate, Some, sym, ap, ap₂, ◌∙◌, subst, arith, add-one, ⊎_elim}
use Rattle.std.proofs.Math.Nat.{mod_self, mod-eq_of_lt, mul-mod_right, zero-mul, zero-add, add-zero, mul-le-mul_right}
use Rattle.std.proofs.Math.Seq.{take-add}
use Rattle.std.proofs.lemmas.Bool.{cases_lt}
use Rattle.std.proofs.lemmas.List.{length-take-le, length-drop, length-append, length-replicate, take_all, get_or-take, get_or-drop, get_or_default}
use Rattle.std.proofs.lemmas.List.FromFn.{length-map-range_with_len, get_or-map-range_with_len}
use Rattle.std.proofs.lemmas.List.Elements.{All-from_recursion, recursion_from_All}
use Rattle.std.proofs.lemmas.Option.{get_or_from_slice_get}
use Rattle.std.specs.List.{AllByRecursion, All, concat, slice_get}
use Rattle.hb_base.specs.ByteLists.{AreBytes}
use Rattle.rs_shards.specs.Codeword.{data_of}
use Rattle.rs_shards.specs.Frame.{frame, with_length, padding}
use Rattle.rs_shards.specs.Column.{shard_at, AreEven}
use Rattle.rs_shards.specs.Rebuilding.{AreShards, IsRebuilt}
use Rattle.rs_shards.specs.Completing.{piece_at, pieces}
use Rattle.rs_shards.proofs.Frames.{concat-take_more}

-- ---- the frame is a multiple of k bytes

-- the padding makes a length a multiple
pub padding-whole : (k n : ℕ) → 0 < k → (n + padding k n) % k ≡ 0
padding-whole k n some =
    ⊎_elim
    (λ none.
    let exact : n % k ≡ 0 = omega arith in
    let rest : k - 0 ≡ k = omega arith in
    let pad : padding k n ≡ 0 = ap (λ r. (k - r) % k) exact ∙ ap (λ r. r % k) rest ∙ mod_self k in
    ap (λ p. (n + p) % k) pad ∙ ap (λ m. m % k) (add-zero n) ∙ exact)
    (λ le.
    let short : k - n % k < k = omega arith in
    let pad : padding k n ≡ k - n % k = mod-eq_of_lt short in
    let whole : n + (k - n % k) ≡ k * (n / k + 1) = omega arith in
    ap (λ p. (n + p) % k) pad ∙ ap (λ m. m % k) whole ∙ mul-mod_right k (n / k + 1))
    (cases_lt (n % k) 1)

pub length-frame : (k : ℕ) (value : List ℕ) → length (frame k value) ≡ length (with_length value) + padding k (length (with_length value))
unfolding frame
length-frame k value =
    length-append (with_length value) (replicate (padding k (length (with_length value))) 0)
    ∙ ap (λ p. length (with_length value) + p) (length-replicate (padding k (length (with_length value))) 0)

pub frame-whole : (k : ℕ) (value : List ℕ) → 0 < k → length (frame k value) % k ≡ 0
frame-whole k value some = ap (λ n. n % k) (length-frame k value) ∙ padding-whole k (length (with_length value)) some

-- so it is k times its k-th part
pub frame-exact : (k : ℕ) (value : List ℕ) → 1 ≤ k → length (frame k value) ≡ k * (length (frame k value) / k)
frame-exact k value some = let none : length (frame k value) % k ≡ 0 = frame-whole k value some in omega arith

-- ---- it consists of bytes

abbrev pub Bytes : List ℕ → Type 0
Bytes xs = AllByRecursion (λ x. x < 256) xs

pub Bytes-append : (xs ys : List ℕ) → Bytes xs → Bytes ys → Bytes (xs ++ ys)
Bytes-append [] ys hx hy = hy
Bytes-append (x ∷ xs) ys hx hy = (hx.0, Bytes-append xs ys hx.1 hy)

Bytes-zeros : (n : ℕ) → Bytes (replicate n 0)
Bytes-zeros zero = tt
Bytes-zeros (suc n) = (omega arith, Bytes-zeros n)

pub frame-bytes : (k : ℕ) (value : List ℕ) → AreBytes value → AreBytes (frame k value)
unfolding frame
frame-bytes k value h =
    All-from_recursion (λ x. x < 256) (frame k value) (
      omega arith,
      (
        omega arith,
        (
          omega arith,
          (
            omega arith,
            Bytes-append value (replicate (padding k (length (with_length value))) 0) (recursion_from_All (λ x. x < 256) value h) (Bytes-zeros (padding k (length (with_length value)))),
          ),
        ),
      ),
    )

-- ---- k pieces of one width

pub length-pieces : (k : ℕ) (bytes : List ℕ) → length (pieces k bytes) ≡ k
unfolding pieces
length-pieces k bytes = length-map-range_with_len (piece_at (length bytes / k) bytes) 0 k

pub get_or-pieces : (k : ℕ) (bytes : List ℕ) (i : ℕ) (d : ℕ × List ℕ) → i < k → get_or (pieces k bytes) i d ≡ piece_at (length bytes / k) bytes i
unfolding pieces
get_or-pieces k bytes i d l = get_or-map-range_with_len (piece_at (length bytes / k) bytes) 0 k i i d l (zero-add i)

-- each stands at its place
pub pieces-shards : (n k : ℕ) (bytes : List ℕ) → k ≤ n → AreShards n (pieces k bytes)
pieces-shards n k bytes within = record {
  distinct = λ i j d lt l.
      let lj : j < k = omega (arith, length-pieces k bytes) in
      let li : i < k = omega arith in
      λ e. let same : i ≡ j = sym (ap (λ x. x.0) (get_or-pieces k bytes i d li)) ∙ e ∙ ap (λ x. x.0) (get_or-pieces k bytes j d lj) in
      absurd (omega arith);
  within = λ i d l.
      let li : i < k = omega (arith, length-pieces k bytes) in
      subst (λ x. x.0 < n) (sym (get_or-pieces k bytes i d li)) (omega arith);
}

module _ (whole : List ℕ) (k width : ℕ) (long : length whole ≡ k * width) where
  -- a piece lies within the whole
  within : (i : ℕ) → i < k → i * width + width ≤ k * width
  within i l = let h : (i + 1) * width ≤ k * width = mul-le-mul_right width (omega arith) in omega arith

  length-piece : (i : ℕ) → i < k → length (take width (drop (i * width) whole)) ≡ width
  length-piece i l = length-take-le width (drop (i * width) whole) (omega (arith, length-drop (i * width) whole, within i l))

  piece-bytes : AreBytes whole → (i : ℕ) → i < k → AreBytes (take width (drop (i * width) whole))
  piece-bytes h i l j d lj =
      let short : j < width = omega (arith, length-piece i l) in
      subst (λ x. x < 256) (sym (get_or-take width (drop (i * width) whole) j d short ∙ get_or-drop (i * width) whole j d))
      (h (i * width + j) d (omega (arith, within i l)))

  module _ (shards : List (List ℕ)) (many : k ≤ length shards) (cut : (j : ℕ) → j < k → get_or shards j [] ≡ take width (drop (j * width) whole)) where
    joined-to : (t : ℕ) → t ≤ k → concat (take t shards) ≡ take (t * width) whole
    joined-to zero h = sym (ap (λ n. take n whole) (zero-mul width))
    joined-to (suc t) h =
        let x = get_or shards t [] in
        let lt : t < length shards = omega arith in
        let is : x ≡ get_or shards t x = get_or_default shards t [] x lt in
        let next : suc t * width ≡ t * width + width = omega arith in
        ap (λ n. concat (take n shards)) (sym (add-one t)) ∙ concat-take_more shards t x lt is
        ∙ ap₂ (λ a b. a ++ b) (joined-to t (omega arith)) (cut t (omega arith))
        ∙ sym (take-add (t * width) width whole) ∙ ap (λ n. take n whole) (sym next)

    joined : data_of k shards ≡ whole
    joined = joined-to k (omega arith) ∙ take_all (k * width) whole (omega arith)

module _ (whole : List ℕ) (k : ℕ) (long : length whole ≡ k * (length whole / k)) where
  piece-is : (i : ℕ) → i < k → shard_at (pieces k whole) i ≡ take (length whole / k) (drop (i * (length whole / k)) whole)
  piece-is i l = ap (λ x. x.1) (get_or-pieces k whole i (0, []) l)

  length-shard_at-pieces : (i : ℕ) → i < k → length (shard_at (pieces k whole) i) ≡ length whole / k
  length-shard_at-pieces i l = ap length (piece-is i l) ∙ length-piece whole k (length whole / k) long i l

  pub pieces-even : AreBytes whole → AreEven (pieces k whole)
  pieces-even h = record {
    equal = λ i li.
        let ik : i < k = omega (arith, length-pieces k whole) in
        let ok : 0 < k = omega arith in
        length-shard_at-pieces i ik ∙ sym (length-shard_at-pieces 0 ok);
    bytes = λ i li.
        let ik : i < k = omega (arith, length-pieces k whole) in
        subst AreBytes (sym (piece-is i ik)) (piece-bytes whole k (length whole / k) long h i ik);
  }

  -- the codeword with the pieces has the whole as its data
  pub pieces-joined : (n : ℕ) (shards : List (List ℕ)) → k ≤ n → IsRebuilt n k (pieces k whole) shards → data_of k shards ≡ whole
  pieces-joined n shards few h =
      let all : take k (pieces k whole) ≡ pieces k whole = take_all k (pieces k whole) (omega (arith, length-pieces k whole)) in
      joined whole k (length whole / k) long shards (omega (arith, h.codeword.count)) (λ j lj.
      let x = get_or (pieces k whole) j (0, []) in
      let given : slice_get shards x.0 ≡ Some x.1 =
      subst (λ xs. All (λ x. slice_get shards x.0 ≡ Some x.1) xs) all h.given j (0, []) (omega (arith, length-pieces k whole)) in
      ap (λ i. get_or shards i []) (sym (ap (λ y. y.0) (get_or-pieces k whole j (0, []) lj)))
      ∙ get_or_from_slice_get shards x.0 x.1 [] given ∙ piece-is j lj)
