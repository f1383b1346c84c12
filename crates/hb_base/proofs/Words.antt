-- Words whose bits are marks.
use Rattle.std.proofs.Common.{◌≡◌, ℕ, zero, suc, ◌/◌, ◌%◌, ◌^◌, ◌<◌, ◌≤◌, Bool, true, false, List, length, ap, sym, ◌∙◌, subst, arith, refl}
use Rattle.std.proofs.lemmas.Bool.{eq-eqb, eqb-true}
use Rattle.std.proofs.lemmas.List.{get_or-set_other}
use Rattle.std.proofs.lemmas.Grind.{get_or-set_at}
use Rattle.std.proofs.lemmas.Nat.{or_shr, or_disjoint, and_le_r}
use Rattle.std.proofs.lemmas.Nat.Bits.{bit_at_lowest, bit_at-suc, bit_at_or, bit_at-pow_same, bit_at-pow_other, bit_at-lt}
use native.Mathlib.Nat.{pow-suc}
use Rattle.std.specs.Prelude.{bit_and, bit_or, slice_set, slice_index_or, ◌==◌, ◌||◌, ◌∷◌}
use Rattle.std.specs.Int.{bit_at}
use Rattle.hb_base.specs.NodeSet.{is_in}
use Rattle.hb_base.specs.Words.{marks_of}

-- mark i is bit i
pub marked : (k w i : ℕ) → i < k → slice_index_or (marks_of k w) i false ≡ (bit_at w i == 1)
unfolding marks_of
marked zero w i within = elim within [ ]
marked (suc k) w zero within = ap (λ (x : ℕ). x == 1) (sym (bit_at_lowest w))
marked (suc k) w (suc i) within = marked k (w / 2) i (omega arith) ∙ ap (λ (x : ℕ). x == 1) (sym (bit_at-suc w i))

pub unmarked : (k w i : ℕ) → k ≤ i → slice_index_or (marks_of k w) i false ≡ false
unfolding marks_of
unmarked zero w i beyond = refl
unmarked (suc k) w zero beyond = absurd (omega arith)
unmarked (suc k) w (suc i) beyond = unmarked k (w / 2) i (omega arith)

pub none : (k i : ℕ) → slice_index_or (marks_of k 0) i false ≡ false
unfolding marks_of
none zero i = refl
none (suc k) zero = refl
none (suc k) (suc i) = none k i

-- a bit that is set is a mark that is set
pub set : (k w i : ℕ) → i < k → marks_of k (bit_or w (2 ^ i)) ≡ slice_set (marks_of k w) i true
unfolding marks_of
set zero w i within = elim within [ ]
set (suc k) w zero within =
    let low : bit_or w 1 % 2 ≡ 1 = omega (arith, bit_at_lowest (bit_or w 1), bit_at_or w 1 0, bit_at-pow_same 0, bit_at-lt w 0) in
    let none : bit_and (w / 2) 0 ≡ 0 = omega (arith, and_le_r (w / 2) 0) in
    let high : bit_or w 1 / 2 ≡ w / 2 = or_shr w 1 1 ∙ omega (arith, or_disjoint (w / 2) 0 none) in
    rw (low, high) refl
set (suc k) w (suc i) within =
    let half : 2 ^ suc i / 2 ≡ 2 ^ i = omega (arith, pow-suc 2 i) in
    let low : bit_or w (2 ^ suc i) % 2 ≡ w % 2 =
    omega (arith, bit_at_lowest (bit_or w (2 ^ suc i)), bit_at_lowest w, bit_at_or w (2 ^ suc i) 0, bit_at-pow_other (suc i) 0 (λ same. omega arith), bit_at-lt w 0) in
    let high : bit_or w (2 ^ suc i) / 2 ≡ bit_or (w / 2) (2 ^ i) = or_shr w (2 ^ suc i) 1 ∙ ap (bit_or (w / 2)) half in
    rw (low, high) (ap (λ (rest : List Bool). (w % 2 == 1) ∷ rest) (set k (w / 2) i (omega arith)))

length-marks_of : (k w : ℕ) → length (marks_of k w) ≡ k
unfolding marks_of
length-marks_of zero w = refl
length-marks_of (suc k) w = ap suc (length-marks_of k (w / 2))

-- a node is in the set then if its mark was just set, or was set before
pub is_in-set : (k w node other : ℕ) → node < k
    → is_in (marks_of k (bit_or w (2 ^ node))) other ≡ ((other == node) || is_in (marks_of k w) other)
is_in-set k w node other within = ap (λ (set : List Bool). is_in set other) (set k w node within) ∙ by (other == node) refl
  where
    within_marks : node < length (marks_of k w)
    within_marks = subst (λ (long : ℕ). node < long) (sym (length-marks_of k w)) within

    by : (b : Bool) → (other == node) ≡ b → is_in (slice_set (marks_of k w) node true) other ≡ (b || is_in (marks_of k w) other)
    by true same = get_or-set_at (marks_of k w) node other true false (eqb-true other node same) within_marks
    by false apart = get_or-set_other (marks_of k w) node other true false (λ same. absurd (cc (apart, eq-eqb other node same)))
