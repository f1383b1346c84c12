-- A polynomial with as many distinct roots as it has coefficients is zero, by division by x + r for each root r.
use Rattle.std.proofs.Common.{◌≡◌, ℕ, zero, suc, ◌<◌, ◌≤◌, List, [], ◌∷◌, length, get_or, refl, sym, ap, ap₂, ◌∙◌, arith, bit_xor}
use Rattle.std.specs.List.{AllByRecursion}
use Rattle.std.proofs.lemmas.List.Elements.{All-from_recursion}
use lib.Bits.{xor_comm, xor_assoc, xor_zero_r, xor_self, xor_lt}
use Rattle.gf_field.specs.Field.{field_product}
use Rattle.gf_field.specs.Polynomial.{polynomial_at, AreDistinct}
use Rattle.gf_field.specs.Interpolation.{polynomial_sum}
use Rattle.gf_field.proofs.Sums.{xor_swap}
use Rattle.gf_field.proofs.Products.{product-sum_left, product-sum_right, product_zero}
use Rattle.gf_field.proofs.Inverses.{no_zero_divisor}
use Rattle.gf_field.proofs.Polynomials.{Bytes, polynomial_at-bound, product_swap, difference-some, polynomial_at-sum, polynomial_sum-bytes, length-polynomial_sum}

pub xor_cancel : (a b : ℕ) → bit_xor (bit_xor a b) b ≡ a
xor_cancel a b = xor_assoc a b b ∙ ap (bit_xor a) (xor_self b) ∙ xor_zero_r a

pub same_from_xor : (a b : ℕ) → bit_xor a b ≡ 0 → a ≡ b
same_from_xor a b e = sym (xor_cancel a b) ∙ ap (λ z. bit_xor z b) e

-- c ∷ rest divided by x + r, apart from what is left over
pub quotient : ℕ → List ℕ → List ℕ
quotient r [] = []
quotient r (d ∷ ds) = polynomial_at (d ∷ ds) r ∷ quotient r ds

length-quotient : (r : ℕ) (ds : List ℕ) → length (quotient r ds) ≡ length ds
unfolding quotient
length-quotient r [] = refl
length-quotient r (d ∷ ds) = ap suc (length-quotient r ds)

quotient-bytes : (r : ℕ) (ds : List ℕ) → r < 256 → Bytes ds → Bytes (quotient r ds)
unfolding quotient
quotient-bytes r [] hr h = h
quotient-bytes r (d ∷ ds) hr h = (polynomial_at-bound (d ∷ ds) r h hr, quotient-bytes r ds hr h.1)

-- what a polynomial gains from r to x is a multiple of x + r
pub division : (c : ℕ) (rest : List ℕ) (x r : ℕ) → Bytes rest → x < 256 → r < 256
    → bit_xor (polynomial_at (c ∷ rest) x) (polynomial_at (c ∷ rest) r) ≡ field_product (bit_xor x r) (polynomial_at (quotient r rest) x)
unfolding quotient polynomial_at
division c [] x r h hx hr =
    ap₂ (λ u v. bit_xor (bit_xor c u) (bit_xor c v)) (product_zero x) (product_zero r) ∙ xor_self (bit_xor c 0) ∙ sym (product_zero (bit_xor x r))
division c (d ∷ ds) x r h hx hr =
    let at_x = polynomial_at (d ∷ ds) x in
    let at_r = polynomial_at (d ∷ ds) r in
    let more = polynomial_at (quotient r ds) x in
    let gap = bit_xor x r in
    let gained : bit_xor at_x at_r ≡ field_product gap more = division d ds x r h.1 hx hr in
    let is : at_x ≡ bit_xor (field_product gap more) at_r = sym (xor_cancel at_x at_r) ∙ ap (λ z. bit_xor z at_r) gained in
    let hm : more < 256 = polynomial_at-bound (quotient r ds) x (quotient-bytes r ds hr h.1) hx in
    xor_swap c (field_product x at_x) c (field_product r at_r)
    ∙ ap (λ z. bit_xor z (bit_xor (field_product x at_x) (field_product r at_r))) (xor_self c)
    ∙ ap (λ z. bit_xor z (field_product r at_r)) (ap (field_product x) is ∙ product-sum_right x (field_product gap more) at_r)
    ∙ xor_assoc (field_product x (field_product gap more)) (field_product x at_r) (field_product r at_r)
    ∙ ap₂ bit_xor (product_swap x gap more hx (xor_lt 8 x r hx hr) hm) (sym (product-sum_left x r at_r))
    ∙ xor_comm (field_product gap (field_product x more)) (field_product gap at_r)
    ∙ sym (product-sum_right gap at_r (field_product x more))

-- the zero polynomial
abbrev pub IsZero : List ℕ → Type 0
IsZero cs = AllByRecursion (λ c. c ≡ 0) cs

pub polynomial_at-zero : (cs : List ℕ) (x : ℕ) → IsZero cs → polynomial_at cs x ≡ 0
unfolding polynomial_at
polynomial_at-zero [] x h = refl
polynomial_at-zero (c ∷ cs) x h = ap₂ bit_xor h.0 (ap (field_product x) (polynomial_at-zero cs x h.1) ∙ product_zero x)

quotient-zero : (r : ℕ) (ds : List ℕ) → IsZero (quotient r ds) → IsZero ds
unfolding quotient polynomial_at
quotient-zero r [] h = h
quotient-zero r (d ∷ ds) h =
    let rest : IsZero ds = quotient-zero r ds h.1 in
    (sym (xor_zero_r d) ∙ ap (bit_xor d) (sym (ap (field_product r) (polynomial_at-zero ds r rest) ∙ product_zero r)) ∙ h.0, rest)

-- the other roots are roots of the quotient
quotient-root : (r : ℕ) (rs : List ℕ) (c : ℕ) (rest : List ℕ) → Bytes (r ∷ rs) → Bytes (c ∷ rest) → AreDistinct (r ∷ rs)
    → ((i : ℕ) → i < length (r ∷ rs) → polynomial_at (c ∷ rest) (get_or (r ∷ rs) i 0) ≡ 0)
    → (i : ℕ) → i < length rs → polynomial_at (quotient r rest) (get_or rs i 0) ≡ 0
quotient-root r rs c rest hr hc apart roots i l =
    let x = get_or rs i 0 in
    let hx : x < 256 = All-from_recursion (λ x. x < 256) rs hr.1 i 0 l in
    let gap : 0 < bit_xor x r = difference-some x r (λ e. apart 0 (suc i) 0 (omega arith) (omega arith) (sym e)) in
    no_zero_divisor (bit_xor x r) (polynomial_at (quotient r rest) x) gap (xor_lt 8 x r hx hr.0)
    (polynomial_at-bound (quotient r rest) x (quotient-bytes r rest hr.0 hc.1) hx)
    (sym (division c rest x r hc.1 hx hr.0) ∙ ap₂ bit_xor (roots (suc i) (omega arith)) (roots 0 (omega arith)))

-- where the quotient is zero and r is a root, the polynomial is zero
from_quotient : (r c : ℕ) (rest : List ℕ) → IsZero (quotient r rest) → polynomial_at (c ∷ rest) r ≡ 0 → IsZero (c ∷ rest)
unfolding polynomial_at
from_quotient r c rest h here =
    let rest_zero : IsZero rest = quotient-zero r rest h in
    (sym (xor_zero_r c) ∙ ap (bit_xor c) (sym (ap (field_product r) (polynomial_at-zero rest r rest_zero) ∙ product_zero r)) ∙ here, rest_zero)

pub roots-zero : (rs cs : List ℕ) → length cs ≤ length rs → Bytes rs → Bytes cs → AreDistinct rs
    → ((i : ℕ) → i < length rs → polynomial_at cs (get_or rs i 0) ≡ 0) → IsZero cs
roots-zero rs [] short hr hc apart roots = tt
roots-zero [] (c ∷ rest) short hr hc apart roots = absurd (omega arith)
roots-zero (r ∷ rs) (c ∷ rest) short hr hc apart roots =
    from_quotient r c rest
    (roots-zero rs (quotient r rest) (omega (arith, length-quotient r rest)) hr.1 (quotient-bytes r rest hr.0 hc.1)
    (λ i j d lt l. apart (suc i) (suc j) d (omega arith) (omega arith))
    (λ i l. quotient-root r rs c rest hr hc apart roots i l))
    (roots 0 (omega arith))

none_at : (cs : List ℕ) (k : ℕ) → IsZero cs → get_or cs k 0 ≡ 0
none_at [] k h = refl
none_at (c ∷ cs) zero h = h.0
none_at (c ∷ cs) (suc k) h = none_at cs k h.1

same_coefficients : (fs gs : List ℕ) (k : ℕ) → IsZero (polynomial_sum fs gs) → get_or fs k 0 ≡ get_or gs k 0
unfolding polynomial_sum
same_coefficients [] gs k h = sym (none_at gs k h)
same_coefficients (f ∷ fs) [] k h = none_at (f ∷ fs) k h
same_coefficients (f ∷ fs) (g ∷ gs) zero h = same_from_xor f g h.0
same_coefficients (f ∷ fs) (g ∷ gs) (suc k) h = same_coefficients fs gs k h.1

-- two polynomials of a degree below the number of distinct points at which they agree
module _ (points fs gs : List ℕ) (degree_f : length fs ≤ length points) (degree_g : length gs ≤ length points)
    (hp : Bytes points) (hf : Bytes fs) (hg : Bytes gs) (apart : AreDistinct points)
    (agree : (i : ℕ) → i < length points → polynomial_at fs (get_or points i 0) ≡ polynomial_at gs (get_or points i 0)) where
  gap_zero : IsZero (polynomial_sum fs gs)
  gap_zero = roots-zero points (polynomial_sum fs gs) (length-polynomial_sum fs gs (length points) degree_f degree_g) hp (polynomial_sum-bytes fs gs hf hg) apart
      (λ i l. polynomial_at-sum fs gs (get_or points i 0)
      ∙ ap (λ z. bit_xor z (polynomial_at gs (get_or points i 0))) (agree i l) ∙ xor_self (polynomial_at gs (get_or points i 0)))

  pub coefficients_agree : (k : ℕ) → get_or fs k 0 ≡ get_or gs k 0
  coefficients_agree k = same_coefficients fs gs k gap_zero

  pub values_agree : (x : ℕ) → polynomial_at fs x ≡ polynomial_at gs x
  values_agree x = same_from_xor _ _ (sym (polynomial_at-sum fs gs x) ∙ polynomial_at-zero (polynomial_sum fs gs) x gap_zero)
