-- Marks as the bits of a word.
use Rattle.std.specs.Prelude.{◌≡◌, ℕ, zero, suc, ◌+◌, ◌*◌, ◌/◌, ◌%◌, ◌^◌, ◌<◌, ◌==◌, Bool, true, false, List, [], ◌∷◌}
use mathlib.Core.Path.{refl}
use native.Mathlib.Omega.{arith}
use native.Mathlib.Nat.{pow-suc}

-- the lowest bits of a word, so many, as marks
unfoldable pub marks_of : ℕ → ℕ → List Bool
marks_of zero word = []
marks_of (suc count) word = (word % 2 == 1) ∷ marks_of count (word / 2)

-- a mark as a bit
unfoldable pub bit_of : Bool → ℕ
bit_of false = 0
bit_of true = 1

-- the word whose lowest bits are these marks
unfoldable pub word_of : List Bool → ℕ
word_of [] = 0
word_of (mark ∷ marks) = bit_of mark + 2 * word_of marks

bit : (b : ℕ) → b < 2 → bit_of (b == 1) ≡ b
unfolding bit_of
bit zero small = refl
bit (suc zero) small = refl
bit (suc (suc b)) small = absurd (omega arith)

-- marks that a word gives fix the word
pub word_of-marks_of : (k w : ℕ) → w < 2 ^ k → word_of (marks_of k w) ≡ w
unfolding marks_of word_of
word_of-marks_of zero w small = let none : w ≡ 0 = omega (arith, small) in rw none refl
word_of-marks_of (suc k) w small =
    let rest : word_of (marks_of k (w / 2)) ≡ w / 2 = word_of-marks_of k (w / 2) (omega (arith, small, pow-suc 2 k)) in
    let low : bit_of (w % 2 == 1) ≡ w % 2 = bit (w % 2) (omega arith) in
    omega (arith, rest, low)
