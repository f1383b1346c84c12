-- The two tables against their definitions, entry by entry.
use Rattle.std.proofs.Common.{◌≡◌, ℕ, zero, suc, ◌+◌, ◌*◌, ◌<◌, Bool, true, ◌&&◌, ◌==◌, nat_lt, List, [], ◌∷◌, length, get_or, refl, sym, ap, ◌∙◌, arith, add-one}
use Rattle.std.proofs.lemmas.Bool.{eqb-true, ltb-true}
use Rattle.std.proofs.Math.Nat.{add-zero, zero-add, mul-zero, mul-suc}
use Rattle.gf_field.specs.declared.tables.TheConstants.{POWERS, LOGARITHMS}
use Rattle.gf_field.specs.Field.{field_product, unreduced_product, remainder, field_power}
use Rattle.gf_field.proofs.Sums.{both, passes_below, passes}
use Rattle.gf_field.proofs.Products.{product-bound, product_assoc, one_product}

-- each entry is x times the one before, the first being a
abbrev climbs : ℕ → List ℕ → Bool
climbs a [] = true
climbs a (p ∷ ps) = (p == a) && climbs (field_product 2 a) ps

climbs_is : (ps : List ℕ) (from : ℕ) → climbs (field_power 2 from) ps ≡ true → (i : ℕ) → i < length ps → get_or ps i 0 ≡ field_power 2 (from + i)
unfolding field_power
climbs_is [] from h i l = absurd (omega arith)
climbs_is (p ∷ ps) from h zero l =
    eqb-true _ _ (both (p == field_power 2 from) (climbs (field_product 2 (field_power 2 from)) ps) h).0 ∙ ap (field_power 2) (sym (add-zero from))
climbs_is (p ∷ ps) from h (suc i) l =
    climbs_is ps (suc from) (both (p == field_power 2 from) (climbs (field_product 2 (field_power 2 from)) ps) h).1 i (omega arith)
    ∙ ap (field_power 2) (omega arith)

powers_computed : climbs (field_power 2 0) POWERS ≡ true
unfolding field_power field_product unreduced_product remainder
powers_computed = refl

pub POWERS-is : (i : ℕ) → i < 510 → get_or POWERS i 0 ≡ field_power 2 i
POWERS-is i l = climbs_is POWERS 0 powers_computed i l ∙ ap (field_power 2) (omega arith)

-- the logarithm of i + 1 is below 255, and the power with it is i + 1
abbrev inverts : ℕ → Bool
inverts i = nat_lt (get_or LOGARITHMS (suc i) 0) 255 && (get_or POWERS (get_or LOGARITHMS (suc i) 0) 0 == suc i)

inverts_computed : passes_below inverts 255 ≡ true
inverts_computed = refl

pub LOGARITHMS-is : (a : ℕ) → 0 < a → a < 256 → (get_or LOGARITHMS a 0 < 255) × (field_power 2 (get_or LOGARITHMS a 0) ≡ a)
LOGARITHMS-is zero some h = absurd (omega arith)
LOGARITHMS-is (suc i) some h =
    let l = get_or LOGARITHMS (suc i) 0 in
    let parts : (nat_lt l 255 ≡ true) × ((get_or POWERS l 0 == suc i) ≡ true) =
    both (nat_lt l 255) (get_or POWERS l 0 == suc i) (passes inverts 255 inverts_computed i (omega arith)) in
    let low : l < 255 = ltb-true l 255 parts.0 in
    (low, sym (POWERS-is l (omega arith)) ∙ eqb-true (get_or POWERS l 0) (suc i) parts.1)

-- ---- powers of any element

pub field_power-bound : (a i : ℕ) → a < 256 → field_power a i < 256
unfolding field_power
field_power-bound a zero h = omega arith
field_power-bound a (suc i) h = product-bound a (field_power a i) h (field_power-bound a i h)

pub field_power-more : (a i : ℕ) → field_power a (i + 1) ≡ field_product a (field_power a i)
unfolding field_power
field_power-more a i = ap (field_power a) (add-one i)

pub field_power-add : (a i j : ℕ) → a < 256 → field_power a (i + j) ≡ field_product (field_power a i) (field_power a j)
unfolding field_power
field_power-add a zero j h = ap (field_power a) (zero-add j) ∙ sym (one_product (field_power a j) (field_power-bound a j h))
field_power-add a (suc i) j h =
    let e : suc i + j ≡ suc (i + j) = omega arith in
    ap (field_power a) e ∙ ap (field_product a) (field_power-add a i j h)
    ∙ sym (product_assoc a (field_power a i) (field_power a j) h (field_power-bound a i h) (field_power-bound a j h))

field_power-one : (i : ℕ) → field_power 1 i ≡ 1
unfolding field_power
field_power-one zero = refl
field_power-one (suc i) = one_product (field_power 1 i) (field_power-bound 1 i (omega arith)) ∙ field_power-one i

-- a power of a power
field_power-mul : (a i j : ℕ) → a < 256 → field_power a (i * j) ≡ field_power (field_power a i) j
unfolding field_power
field_power-mul a i zero h = ap (field_power a) (mul-zero i)
field_power-mul a i (suc j) h =
    let e : i * suc j ≡ i + i * j = omega (arith, mul-suc i j) in
    ap (field_power a) e ∙ field_power-add a i (i * j) h ∙ ap (field_product (field_power a i)) (field_power-mul a i j h)

pub two_power-255 : field_power 2 255 ≡ 1
two_power-255 = sym (POWERS-is 255 (omega arith))

-- each element but 0 is a power of 2, and so has 1 as its power with the exponent 255
pub field_power-255 : (a : ℕ) → 0 < a → a < 256 → field_power a 255 ≡ 1
field_power-255 a some h =
    let l = get_or LOGARITHMS a 0 in
    let two : 2 < 256 = omega arith in
    let swapped : l * 255 ≡ 255 * l = omega arith in
    ap (λ b. field_power b 255) (sym (LOGARITHMS-is a some h).1) ∙ sym (field_power-mul 2 l 255 two) ∙ ap (field_power 2) swapped
    ∙ field_power-mul 2 255 l two ∙ ap (λ b. field_power b l) two_power-255 ∙ field_power-one l
