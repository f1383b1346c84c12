-- Powers of two, and the height of a tree.
use Rattle.std.proofs.Common.{ℕ, ◌^◌, ◌<◌, ◌≤◌, arith, inl, inr}
use Rattle.std.proofs.Math.Nat.{pow-le-pow_right}
use Rattle.std.proofs.lemmas.Bool.{cases_lt}
use Rattle.std.proofs.lemmas.Bool.Decides.{nat_tests}
use Rattle.merkle_branch.specs.Digests.{height}

-- a power that a number fits under is above each that it does not
pub power_above : (k n h : ℕ) → 2 ^ k < n → n ≤ 2 ^ h → k < h
power_above k n h above enough =
    elim (cases_lt k h) as (λ _. k < h) [
      | inl lt ↦ lt
      | inr le ↦ let small : 2 ^ h ≤ 2 ^ k = pow-le-pow_right (omega arith) le in absurd (omega arith)
    ]

-- a tree has a position for each leaf
pub height_fits : (n : ℕ) → n ≤ 16 → n ≤ 2 ^ height n
unfolding height
height_fits n few = grind (arith, nat_tests)

pub height_low : (n : ℕ) → height n ≤ 4
unfolding height
height_low n = grind (arith, nat_tests)
