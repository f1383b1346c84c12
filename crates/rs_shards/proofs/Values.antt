-- A frame holds its value, and what is a true frame is the frame of what it holds.
use Rattle.std.proofs.Common.{◌≡◌, ℕ, zero, suc, ◌+◌, ◌-◌, ◌%◌, ◌<◌, ◌≤◌, ◌^◌, true, ◌==◌, List, [], ◌∷◌, ◌++◌, length, take, drop, replicate, refl, sym, ap, ap₂, ◌∙◌, arith, length-append}
use Rattle.std.proofs.Math.Nat.{mod-lt}
use Rattle.std.proofs.lemmas.Nat.{from_be_bytes-to_be_bytes_4}
use Rattle.std.proofs.lemmas.Bool.{eqb-true}
use Rattle.std.proofs.lemmas.List.{take_at, take_all, drop_at, drop-drop}
use Rattle.std.proofs.Math.Seq.{drop-append-add}
use Rattle.std.specs.List.{list_all}
use Rattle.hb_base.specs.Limits.{longest_value}
use Rattle.rs_shards.specs.Frame.{frame, with_length, padding, is_frame, value_in, stated_length}
use Rattle.rs_shards.proofs.Frames.{last_test, both, value_in-true}
use Rattle.rs_shards.proofs.Pieces.{length-frame}

zeros-pass : (n : ℕ) → list_all (λ b. b == 0) (replicate n 0) ≡ true
zeros-pass zero = refl
zeros-pass (suc n) = zeros-pass n

pub zeros-are : (xs : List ℕ) → list_all (λ b. b == 0) xs ≡ true → xs ≡ replicate (length xs) 0
zeros-are [] h = refl
zeros-are (x ∷ xs) h =
    let parts = both (x == 0) (list_all (λ b. b == 0) xs) h in
    ap₂ (λ y ys. y ∷ ys) (eqb-true x 0 parts.0) (zeros-are xs parts.1)

-- what stands in a frame behind the length field
pub drop-frame : (k : ℕ) (value : List ℕ) → drop 4 (frame k value) ≡ value ++ replicate (padding k (length (with_length value))) 0
unfolding frame
drop-frame k value = refl

pub stated_length-frame : (k : ℕ) (value : List ℕ) → length value < 2 ^ 32 → stated_length (frame k value) ≡ length value
unfolding frame
stated_length-frame k value h = from_be_bytes-to_be_bytes_4 (length value) h

-- what is behind the value
pub rest-frame : (k : ℕ) (value : List ℕ) → drop (4 + length value) (frame k value) ≡ replicate (padding k (length (with_length value))) 0
rest-frame k value =
    sym (drop-drop (length value) 4 (frame k value)) ∙ ap (drop (length value)) (drop-frame k value)
    ∙ drop_at value (replicate (padding k (length (with_length value))) 0) (length value) refl

pub value_in-frame : (k : ℕ) (value : List ℕ) → 0 < k → length value ≤ longest_value → value_in k (frame k value) ≡ value
value_in-frame k value some short =
    let bytes = frame k value in
    let pad = padding k (length (with_length value)) in
    let states : stated_length bytes ≡ length value = stated_length-frame k value (omega arith) in
    let long : length bytes ≡ 4 + length value + pad = length-frame k value ∙ omega arith in
    let little : pad < k = mod-lt (k - length (with_length value) % k) some in
    let zeros : list_all (λ b. b == 0) (drop (4 + stated_length bytes) bytes) ≡ true =
    ap (λ n. list_all (λ b. b == 0) (drop (4 + n) bytes)) states ∙ ap (list_all (λ b. b == 0)) (rest-frame k value) ∙ zeros-pass pad in
    let test : is_frame k bytes ≡ true = last_test k bytes (omega arith) (omega arith) (omega arith) (omega arith) ∙ zeros in
    value_in-true k bytes test ∙ ap₂ (λ n xs. take n xs) states (drop-frame k value) ∙ take_at value (replicate pad 0) (length value) refl

-- what stands in the bytes behind a front
pub behind_front : (front bytes whole : List ℕ) → whole ≡ front ++ bytes → take (length whole - length front) (drop (length front) whole) ≡ bytes
behind_front front bytes whole is =
    let rest : drop (length front) whole ≡ bytes = ap (drop (length front)) is ∙ drop_at front bytes (length front) refl in
    let size : length whole ≡ length front + length bytes = ap length is ∙ length-append front bytes in
    ap (take (length whole - length front)) rest ∙ take_all (length whole - length front) bytes (omega (arith, size))

pub part_behind_front : (front bytes whole : List ℕ) (at len : ℕ) → whole ≡ front ++ bytes → take len (drop (length front + at) whole) ≡ take len (drop at bytes)
part_behind_front front bytes whole at len is =
    ap (λ xs. take len (drop (length front + at) xs)) is ∙ ap (take len) (drop-append-add front bytes at)
