-- The coefficients of a polynomial from its values, the lowest first.
use Rattle.std.proofs.Common.{◌≡◌, ℕ, zero, suc, ◌+◌, ◌-◌, ◌<◌, List, [], ◌∷◌, ◌++◌, length, get_or, take, drop, replicate, refl, ap, ◌∙◌, arith, bit_xor}
use Rattle.std.proofs.lemmas.List.{drop_more, drop_all, append-nil, take_all}
use Rattle.std.proofs.lemmas.List.Elements.{All-from_recursion, recursion_from_All}
use lib.Bits.{xor_comm, xor_zero_r}
use Rattle.gf_field.specs.Field.{field_sum, field_product}
use Rattle.hb_base.specs.ByteLists.{AreBytes}
use Rattle.gf_field.specs.Polynomial.{polynomial_at}
use Rattle.gf_field.proofs.Products.{zero_product, product_zero}
use Rattle.gf_field.proofs.Inverses.{product_cancel}
use Rattle.gf_field.proofs.Polynomials.{Bytes-drop, polynomial_at-bound}
use Rattle.gf_field.proofs.Roots.{xor_cancel}

-- the value at 0 is the lowest coefficient
pub at_zero : (cs : List ℕ) → polynomial_at cs 0 ≡ get_or cs 0 0
unfolding polynomial_at
at_zero [] = refl
at_zero (c ∷ cs) = ap (bit_xor c) (zero_product (polynomial_at cs 0)) ∙ xor_zero_r c

pub drop-bytes : (k : ℕ) (cs : List ℕ) → AreBytes cs → AreBytes (drop k cs)
drop-bytes k cs h = All-from_recursion (λ x. x < 256) (drop k cs) (Bytes-drop k cs (recursion_from_All (λ x. x < 256) cs h))

-- a value less the lowest coefficient is a multiple of what is left
without_lowest : (c : ℕ) (cs : List ℕ) (x : ℕ) → field_sum (polynomial_at (c ∷ cs) x) c ≡ field_product x (polynomial_at cs x)
unfolding polynomial_at
without_lowest c cs x =
    ap (λ z. bit_xor z c) (xor_comm c (field_product x (polynomial_at cs x))) ∙ xor_cancel (field_product x (polynomial_at cs x)) c

-- so the value that is left at a point other than 0 is known
pub value_left : (cs : List ℕ) (k x value left : ℕ) → AreBytes cs → k < length cs → 0 < x → x < 256 → left < 256
    → value ≡ polynomial_at (drop k cs) x → field_product x left ≡ field_sum value (get_or cs k 0) → left ≡ polynomial_at (drop (k + 1) cs) x
value_left cs k x value left hb h some hx hl is e =
    let rest = drop (k + 1) cs in
    let bound : polynomial_at rest x < 256 = polynomial_at-bound rest x (Bytes-drop (k + 1) cs (recursion_from_All (λ x. x < 256) cs hb)) hx in
    product_cancel x left (polynomial_at rest x) some hx hl bound
    (e ∙ ap (λ v. field_sum v (get_or cs k 0)) (is ∙ ap (λ ds. polynomial_at ds x) (drop_more cs k 0 h)) ∙ without_lowest (get_or cs k 0) rest x)

-- ---- zero coefficients above the others

abbrev pub padded : ℕ → List ℕ → List ℕ
padded n cs = cs ++ replicate (n - length cs) 0

zeros-at : (n x : ℕ) → polynomial_at (replicate n 0) x ≡ 0
unfolding polynomial_at
zeros-at zero x = refl
zeros-at (suc n) x = ap (λ v. bit_xor 0 (field_product x v)) (zeros-at n x) ∙ ap (bit_xor 0) (product_zero x)

pub append_zeros-at : (cs : List ℕ) (n x : ℕ) → polynomial_at (cs ++ replicate n 0) x ≡ polynomial_at cs x
unfolding polynomial_at
append_zeros-at [] n x = zeros-at n x
append_zeros-at (c ∷ cs) n x = ap (λ v. bit_xor c (field_product x v)) (append_zeros-at cs n x)

-- the list once all its places are written
pub written : (old new : List ℕ) (len : ℕ) → length new ≡ length old → len ≡ length old → take len (new ++ drop (length new) old) ≡ new
written old new len same whole =
    ap (λ ds. take len (new ++ ds)) (drop_all (length new) old (omega arith)) ∙ ap (take len) (append-nil new) ∙ take_all len new (omega arith)
