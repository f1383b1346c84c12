-- The shards of a value.
use Rattle.std.proofs.Common.{◌≡◌, ℕ, ◌+◌, ◌-◌, ◌*◌, ◌/◌, ◌<◌, ◌≤◌, ◌%◌, List, [], ◌∷◌, ◌++◌, length, take, drop, get_or, Some, sym, ap, ap₂, ◌∙◌, subst, arith}
use Rattle.std.specs.List.{All, concat, slice_get}
use Rattle.std.proofs.Math.Nat.{mod-lt, mul-add-div, div-eq_of_lt, div-le_of_le-mul, add-zero, mul-div_cancel_left}
use Rattle.std.proofs.lemmas.Nat.{le-div}
use Rattle.std.proofs.lemmas.List.{take_all, take-take, length-take-le, get_or_default, get_or-take, take_at, drop_at, drop_more, take-append-drop}
use Rattle.std.proofs.lemmas.List.Folds.{concat-append}
use Rattle.std.proofs.lemmas.Option.{slice_get-get_or}
use Rattle.hb_base.specs.ByteLists.{AreBytes}
use Rattle.hb_base.specs.Limits.{longest_value, longest_shard}
use Rattle.rs_shards.specs.Codeword.{data_of, width_of}
use Rattle.rs_shards.specs.Frame.{frame, with_length, padding}
use Rattle.rs_shards.specs.Rebuilding.{IsRebuilt}
use Rattle.rs_shards.specs.Column.{AreEven}
use Rattle.rs_shards.specs.Completing.{pieces, encoded, IsEncoding, shard_length}
use Rattle.rs_shards.proofs.Pieces.{length-frame, frame-exact, frame-bytes, length-pieces, get_or-pieces, pieces-shards, pieces-even, pieces-joined}
use Rattle.rs_shards.proofs.Unique.{codeword-all_bytes}
use Rattle.rs_shards.proofs.Completions.{completed-rebuilt, completed-only}
use Rattle.rs_shards.proofs.Wholes.{length-data}

pub encoded-encoding : (n k : ℕ) (value : List ℕ) → 1 ≤ k → k ≤ n → n ≤ 256 → AreBytes value → IsEncoding n k value (encoded n k value)
unfolding encoded
encoded-encoding n k value some within few bytes =
    let whole = frame k value in
    let got = pieces k whole in
    let exact = frame-exact k value some in
    let all : take k got ≡ got = take_all k got (omega (arith, length-pieces k whole)) in
    let even : AreEven (take k got) = subst AreEven (sym all) (pieces-even whole k exact (frame-bytes k value bytes)) in
    let r = completed-rebuilt n k some few got (omega (arith, length-pieces k whole)) (pieces-shards n k whole within) even in
    record { codeword = r.codeword; framed = pieces-joined whole k exact n (encoded n k value) within r }

-- a shard has a byte, and no more than the longest has
shard_length-some : (k len : ℕ) → 1 ≤ k → 1 ≤ shard_length k len
shard_length-some k len some = le-div 1 (4 + len + (k - 1)) k some (omega arith)

shard_length-short : (k len : ℕ) → 1 ≤ k → len ≤ longest_value → shard_length k len ≤ longest_shard
shard_length-short k len some short = div-le_of_le-mul k (omega arith)

module _ (n k : ℕ) (value : List ℕ) (shards : List (List ℕ)) (some : 1 ≤ k) (within : k ≤ n) (few : n ≤ 256) (h : IsEncoding n k value shards) where
  data-width : k * width_of shards ≡ 4 + length value + padding k (length (with_length value))
  data-width =
      sym (length-data n k shards within few h.codeword k (omega arith)) ∙ ap length h.framed ∙ length-frame k value ∙ omega arith

  pub width-encoding : width_of shards ≡ shard_length k (length value)
  width-encoding =
      let w = width_of shards in
      let pad = padding k (length (with_length value)) in
      let little : pad < k = mod-lt (k - length (with_length value) % k) some in
      let sum : 4 + length value + (k - 1) ≡ k * w + (k - 1 - pad) = omega (arith, data-width) in
      let none : (k - 1 - pad) / k ≡ 0 = div-eq_of_lt (omega arith) in
      sym (ap (λ m. m / k) sum ∙ mul-add-div some w (k - 1 - pad) ∙ ap (λ q. w + q) none ∙ add-zero w)

  pub lengths-encoding : All (λ shard. length shard ≡ shard_length k (length value)) shards
  lengths-encoding m d l =
      let lm : m < n = omega (arith, h.codeword.count) in
      ap length (get_or_default shards m d [] l) ∙ h.codeword.width m lm ∙ width-encoding

  pub some-encoding : All (λ shard. 1 ≤ length shard) shards
  some-encoding m d l = subst (λ len. 1 ≤ len) (sym (lengths-encoding m d l)) (shard_length-some k (length value) some)

  pub short-encoding : length value ≤ longest_value → All (λ shard. length shard ≤ longest_shard) shards
  short-encoding short m d l =
      subst (λ len. len ≤ longest_shard) (sym (lengths-encoding m d l)) (shard_length-short k (length value) some short)

  pub bytes-encoding : All AreBytes shards
  bytes-encoding = codeword-all_bytes n k shards few h.codeword

  -- each of the first k shards is cut out of the frame
  cut-out : (m : ℕ) → m < k → get_or shards m [] ≡ take (width_of shards) (drop (m * width_of shards) (data_of k shards))
  cut-out m l =
      let w = width_of shards in
      let first = take k shards in
      let long : k ≤ length shards = omega (arith, h.codeword.count) in
      let lf : m < length first = omega (arith, length-take-le k shards long) in
      let x = get_or first m [] in
      let is : x ≡ get_or shards m [] = get_or-take k shards m [] l in
      let before = concat (take m first) in
      let after = concat (drop (m + 1) first) in
      let split : data_of k shards ≡ before ++ (x ++ after) =
      ap concat (sym (take-append-drop m first) ∙ ap (λ r. take m first ++ r) (drop_more first m [] lf))
      ∙ concat-append (take m first) (x ∷ drop (m + 1) first) in
      let front : length before ≡ m * w = ap (λ xs. length (concat xs)) (take-take m k shards (omega arith)) ∙ length-data n k shards within few h.codeword m (omega arith) in
      let wide : length x ≡ w = ap length is ∙ h.codeword.width m (omega arith) in
      sym is ∙ sym (ap (λ d. take w (drop (m * w) d)) split ∙ ap (take w) (drop_at before (x ++ after) (m * w) front) ∙ take_at x after w wide)

  encoding-rebuilt : IsRebuilt n k (pieces k (frame k value)) shards
  encoding-rebuilt =
      let whole = frame k value in
      let got = pieces k whole in
      let all : take k got ≡ got = take_all k got (omega (arith, length-pieces k whole)) in
      let long : k * width_of shards ≡ length whole = sym (length-data n k shards within few h.codeword k (omega arith)) ∙ ap length h.framed in
      let wide : width_of shards ≡ length whole / k = sym (mul-div_cancel_left (width_of shards) some) ∙ ap (λ m. m / k) long in
      record {
        codeword = h.codeword;
        given = subst (λ xs. All (λ x. slice_get shards x.0 ≡ Some x.1) xs) (sym all) (λ i d l.
            let li : i < k = omega (arith, length-pieces k whole) in
            subst (λ x. slice_get shards x.0 ≡ Some x.1) (sym (get_or-pieces k whole i d li))
            (slice_get-get_or shards i [] (omega (arith, h.codeword.count))
            ∙ ap Some (cut-out i li ∙ ap₂ (λ w bytes. take w (drop (i * w) bytes)) wide h.framed)));
      }

  pub encoding-only : shards ≡ encoded n k value
  unfolding encoded
  encoding-only =
      let whole = frame k value in
      completed-only n k some few (pieces k whole) (omega (arith, length-pieces k whole)) (pieces-shards n k whole within) shards encoding-rebuilt
