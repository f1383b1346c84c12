-- The one polynomial through given points, by Lagrange.
use Rattle.std.proofs.Common.{◌≡◌, ◌≢◌, ℕ, zero, suc, ◌+◌, ◌-◌, ◌<◌, ◌≤◌, List, [], ◌∷◌, length, get_or, take, drop, replicate, refl, sym, ap, ap₂, ◌∙◌, subst, arith, bit_xor, Fits, w8, ⊎_elim, ◌⊎◌, inl, inr, get_or-set_same, get_or-set_other}
use Rattle.std.specs.List.{remove}
use Rattle.std.proofs.lemmas.Bool.{cases_lt, cases_eq}
use Rattle.std.proofs.lemmas.List.{get_or-replicate, length-replicate, take_all, get_or_default}
use Rattle.std.proofs.lemmas.List.Elements.{All-from_recursion, recursion_from_All}
use Rattle.std.proofs.lemmas.List.Edits.{get_or-remove_below, get_or-remove_above, length-remove}
use lib.Bits.{xor_zero_r, xor_assoc}
use Rattle.gf_field.specs.Field.{field_product, field_inverse}
use Rattle.hb_base.specs.ByteLists.{AreBytes}
use Rattle.gf_field.specs.Polynomial.{polynomial_at, AreDistinct, Interpolates, unit_values, AreWeightsAt, sum_of_products, product_of_differences}
use Rattle.gf_field.specs.Interpolation.{polynomial_multiple, with_roots, basis_polynomial, interpolation_to, interpolation}
use Rattle.gf_field.proofs.Products.{product_zero, product_one, product_comm}
use Rattle.gf_field.proofs.Inverses.{inverse-bound, product-inverse, product_cancel}
use Rattle.gf_field.proofs.Polynomials.{Bytes, polynomial_at-bound, polynomial_at-sum, polynomial_sum-bytes, length-polynomial_sum, polynomial_at-multiple, polynomial_multiple-bytes, length-polynomial_multiple, with_roots-bytes, length-with_roots, polynomial_at-with_roots, product_of_differences-bound, product_of_differences-append, product_of_differences-root, product_of_differences-some, Bytes-take, Bytes-drop}
use Rattle.gf_field.proofs.Roots.{values_agree}

-- elements that fit a byte are bytes
pub AreBytes-from_fits : (xs : List ℕ) → ((i : ℕ) → Fits w8 (get_or xs i 0)) → AreBytes xs
AreBytes-from_fits xs h k d l = subst (λ x. x < 256) (get_or_default xs k 0 d l) (h k).fits

-- the product of the differences between the point at i and the others
abbrev pub others_at : List ℕ → ℕ → ℕ
others_at ps i = product_of_differences (remove ps i) (get_or ps i 0)

pub interpolation_to-none : (ps vs : List ℕ) (x : ℕ) → polynomial_at (interpolation_to ps vs 0) x ≡ 0
unfolding interpolation_to polynomial_at
interpolation_to-none ps vs x = refl

-- two polynomials through the same points have the same values
pub interpolants_agree : (ps vs : List ℕ) → AreBytes ps → AreDistinct ps → (fs gs : List ℕ) → Interpolates ps vs fs → Interpolates ps vs gs → (x : ℕ) → polynomial_at fs x ≡ polynomial_at gs x
interpolants_agree ps vs hp apart fs gs hf hg x =
    values_agree ps fs gs hf.degree.short hg.degree.short (recursion_from_All (λ x. x < 256) ps hp)
    (recursion_from_All (λ x. x < 256) fs hf.degree.bytes) (recursion_from_All (λ x. x < 256) gs hg.degree.bytes) apart
    (λ i l. hf.passes i l ∙ sym (hg.passes i l)) x

-- one place more of a sum of products
pub sum_of_products-more : (ws vs : List ℕ) (t : ℕ) → t < length ws → t < length vs
    → sum_of_products (take (suc t) ws) (take (suc t) vs) ≡ bit_xor (sum_of_products (take t ws) (take t vs)) (field_product (get_or ws t 0) (get_or vs t 0))
unfolding sum_of_products
sum_of_products-more [] vs t hw hv = absurd (omega arith)
sum_of_products-more (w ∷ ws) [] t hw hv = absurd (omega arith)
sum_of_products-more (w ∷ ws) (v ∷ vs) zero hw hv = xor_zero_r (field_product w v)
sum_of_products-more (w ∷ ws) (v ∷ vs) (suc t) hw hv =
    ap (bit_xor (field_product w v)) (sum_of_products-more ws vs t (omega arith) (omega arith))
    ∙ sym (xor_assoc (field_product w v) (sum_of_products (take t ws) (take t vs)) (field_product (get_or ws t 0) (get_or vs t 0)))

module _ (ps : List ℕ) (hp : AreBytes ps) (apart : AreDistinct ps) where
  distinct_at : (i j : ℕ) → i < length ps → j < length ps → i ≢ j → get_or ps i 0 ≢ get_or ps j 0
  distinct_at i j hi hj ne =
      ⊎_elim (λ l. apart i j 0 l hj) (λ l. let g : j < i = omega arith in λ e. apart j i 0 g hi (sym e)) (cases_lt i j)

  module _ (i : ℕ) (hi : i < length ps) where
    pub removed-bytes : Bytes (remove ps i)
    removed-bytes = recursion_from_All (λ x. x < 256) (remove ps i) (λ k d l.
        ⊎_elim (λ lt. subst (λ x. x < 256) (sym (get_or-remove_below ps i d k lt hi)) (hp k d (omega arith)))
        (λ le. subst (λ x. x < 256) (sym (get_or-remove_above ps i d k le hi)) (hp (k + 1) d (omega (arith, length-remove ps i hi))))
        (cases_lt k i))

    pub others_at-some : 0 < others_at ps i
    others_at-some = product_of_differences-some (remove ps i) (get_or ps i 0) removed-bytes (hp i 0 hi) (λ k l.
        ⊎_elim (λ lt. subst (λ x. get_or ps i 0 ≢ x) (sym (get_or-remove_below ps i 0 k lt hi)) (distinct_at i k hi (omega arith) (omega arith)))
        (λ le. subst (λ x. get_or ps i 0 ≢ x) (sym (get_or-remove_above ps i 0 k le hi)) (distinct_at i (k + 1) hi (omega (arith, length-remove ps i hi)) (omega arith)))
        (cases_lt k i))

    pub others_at-bound : others_at ps i < 256
    others_at-bound = product_of_differences-bound (remove ps i) (get_or ps i 0) removed-bytes (hp i 0 hi)

    pub basis-bytes : Bytes (basis_polynomial ps i)
    unfolding basis_polynomial
    basis-bytes = polynomial_multiple-bytes _ _ (inverse-bound (others_at ps i) others_at-bound) (with_roots-bytes (remove ps i) removed-bytes)

    pub length-basis : length (basis_polynomial ps i) ≤ length ps
    unfolding basis_polynomial
    length-basis = omega (arith, length-polynomial_multiple (field_inverse (others_at ps i)) (with_roots (remove ps i)), length-with_roots (remove ps i), length-remove ps i hi)

    pub polynomial_at-basis : (x : ℕ) → x < 256 → polynomial_at (basis_polynomial ps i) x ≡ field_product (field_inverse (others_at ps i)) (product_of_differences (remove ps i) x)
    unfolding basis_polynomial
    polynomial_at-basis x hx =
        polynomial_at-multiple (field_inverse (others_at ps i)) (with_roots (remove ps i)) x (inverse-bound (others_at ps i) others_at-bound) (with_roots-bytes (remove ps i) removed-bytes) hx
        ∙ ap (field_product (field_inverse (others_at ps i))) (polynomial_at-with_roots (remove ps i) x removed-bytes hx)

    pub basis_same : polynomial_at (basis_polynomial ps i) (get_or ps i 0) ≡ 1
    basis_same = polynomial_at-basis (get_or ps i 0) (hp i 0 hi)
        ∙ product_comm (field_inverse (others_at ps i)) (others_at ps i) (inverse-bound (others_at ps i) others_at-bound) others_at-bound
        ∙ product-inverse (others_at ps i) others_at-some others_at-bound

    pub basis_other : (j : ℕ) → j < length ps → j ≢ i → polynomial_at (basis_polynomial ps i) (get_or ps j 0) ≡ 0
    basis_other j hj ne = polynomial_at-basis (get_or ps j 0) (hp j 0 hj)
        ∙ ap (field_product (field_inverse (others_at ps i))) (root (cases_lt j i)) ∙ product_zero _
      where
        root : (j < i) ⊎ (i ≤ j) → product_of_differences (remove ps i) (get_or ps j 0) ≡ 0
        root (inl lt) = product_of_differences-root (remove ps i) (get_or ps j 0) j (omega (arith, length-remove ps i hi)) (get_or-remove_below ps i 0 j lt hi)
        root (inr le) =
            let e : j - 1 + 1 ≡ j = omega arith in
            product_of_differences-root (remove ps i) (get_or ps j 0) (j - 1) (omega (arith, length-remove ps i hi))
            (get_or-remove_above ps i 0 (j - 1) (omega arith) hi ∙ ap (λ k. get_or ps k 0) e)

    -- the products over the points before and after i, as one
    pub parts-product : (x : ℕ) → x < 256 → field_product (product_of_differences (take i ps) x) (product_of_differences (drop (suc i) ps) x) ≡ product_of_differences (remove ps i) x
    parts-product x hx = sym (product_of_differences-append (take i ps) (drop (suc i) ps) x (Bytes-take i ps points_bytes) (Bytes-drop (suc i) ps points_bytes) hx)
      where
        points_bytes : Bytes ps
        points_bytes = recursion_from_All (λ x. x < 256) ps hp

    -- the inverse of the product at the point i, times that at x
    pub scaled-is : (x r : ℕ) → x < 256 → r < 256 → field_product (others_at ps i) r ≡ 1 → field_product r (product_of_differences (remove ps i) x) ≡ polynomial_at (basis_polynomial ps i) x
    scaled-is x r hx hr e =
        let same : r ≡ field_inverse (others_at ps i) =
        product_cancel (others_at ps i) r (field_inverse (others_at ps i)) others_at-some others_at-bound hr (inverse-bound (others_at ps i) others_at-bound)
        (e ∙ sym (product-inverse (others_at ps i) others_at-some others_at-bound)) in
        ap (λ z. field_product z (product_of_differences (remove ps i) x)) same ∙ sym (polynomial_at-basis x hx)

    pub basis-interpolates : Interpolates ps (unit_values (length ps) i) (basis_polynomial ps i)
    basis-interpolates = record {
      degree = record { short = length-basis; bytes = All-from_recursion (λ x. x < 256) (basis_polynomial ps i) basis-bytes };
      passes = λ j hj. ⊎_elim
          (λ same. subst (λ k. polynomial_at (basis_polynomial ps i) (get_or ps k 0) ≡ get_or (unit_values (length ps) i) k 0) (sym same)
          (basis_same ∙ sym (get_or-set_same (replicate (length ps) 0) i 1 0 (omega (arith, length-replicate {A = ℕ} (length ps) 0)))))
          (λ ne. basis_other j hj ne ∙ sym (get_or-set_other (replicate (length ps) 0) i j 1 0 ne ∙ get_or-replicate (length ps) j 0 0 hj))
          (cases_eq j i);
    }

  module _ (vs : List ℕ) (hv : AreBytes vs) (same_length : length ps ≡ length vs) where
    pub interpolation_to-bytes : (t : ℕ) → t ≤ length ps → Bytes (interpolation_to ps vs t)
    unfolding interpolation_to
    interpolation_to-bytes zero h = tt
    interpolation_to-bytes (suc t) h =
        polynomial_sum-bytes _ _ (interpolation_to-bytes t (omega arith)) (polynomial_multiple-bytes _ _ (hv t 0 (omega arith)) (basis-bytes t (omega arith)))

    pub length-interpolation_to : (t : ℕ) → t ≤ length ps → length (interpolation_to ps vs t) ≤ length ps
    unfolding interpolation_to
    length-interpolation_to zero h = omega arith
    length-interpolation_to (suc t) h =
        length-polynomial_sum _ _ (length ps) (length-interpolation_to t (omega arith))
        (omega (arith, length-polynomial_multiple (get_or vs t 0) (basis_polynomial ps t), length-basis t (omega arith)))

    pub interpolation_to-suc : (t x : ℕ) → t < length ps → x < 256
        → polynomial_at (interpolation_to ps vs (suc t)) x ≡ bit_xor (polynomial_at (interpolation_to ps vs t) x) (field_product (get_or vs t 0) (polynomial_at (basis_polynomial ps t) x))
    unfolding interpolation_to
    interpolation_to-suc t x h hx =
        polynomial_at-sum (interpolation_to ps vs t) (polynomial_multiple (get_or vs t 0) (basis_polynomial ps t)) x
        ∙ ap (bit_xor (polynomial_at (interpolation_to ps vs t) x)) (polynomial_at-multiple (get_or vs t 0) (basis_polynomial ps t) x (hv t 0 (omega arith)) (basis-bytes t h) hx)

    at_later : (t k : ℕ) → t ≤ k → k < length ps → polynomial_at (interpolation_to ps vs t) (get_or ps k 0) ≡ 0
    unfolding interpolation_to polynomial_at
    at_later zero k h hk = refl
    at_later (suc t) k h hk =
        let ne : k ≢ t = omega arith in
        interpolation_to-suc t (get_or ps k 0) (omega arith) (hp k 0 hk)
        ∙ ap₂ bit_xor (at_later t k (omega arith) hk) (ap (field_product (get_or vs t 0)) (basis_other t (omega arith) k hk ne) ∙ product_zero (get_or vs t 0))

    at_earlier : (t k : ℕ) → k < t → t ≤ length ps → polynomial_at (interpolation_to ps vs t) (get_or ps k 0) ≡ get_or vs k 0
    at_earlier zero k h ht = absurd (omega arith)
    at_earlier (suc t) k h ht =
        interpolation_to-suc t (get_or ps k 0) (omega arith) (hp k 0 (omega arith)) ∙ ⊎_elim
        (λ lt. let ne : k ≢ t = omega arith in
        ap₂ bit_xor (at_earlier t k lt (omega arith)) (ap (field_product (get_or vs t 0)) (basis_other t (omega arith) k (omega arith) ne) ∙ product_zero (get_or vs t 0))
        ∙ xor_zero_r (get_or vs k 0))
        (λ le. let same : t ≡ k = omega arith in
        subst (λ j. bit_xor (polynomial_at (interpolation_to ps vs t) (get_or ps j 0)) (field_product (get_or vs t 0) (polynomial_at (basis_polynomial ps t) (get_or ps j 0))) ≡ get_or vs j 0) same
        (ap₂ bit_xor (at_later t t (omega arith) (omega arith)) (ap (field_product (get_or vs t 0)) (basis_same t (omega arith)) ∙ product_one (get_or vs t 0) (hv t 0 (omega arith)))))
        (cases_lt k t)

    -- there is a polynomial through the points
    pub interpolation-interpolates : Interpolates ps vs (interpolation ps vs)
    interpolation-interpolates = record {
      degree = record {
        short = length-interpolation_to (length ps) (omega arith);
        bytes = All-from_recursion (λ x. x < 256) (interpolation ps vs) (interpolation_to-bytes (length ps) (omega arith));
      };
      passes = λ k hk. at_earlier (length ps) k hk (omega arith);
    }

    -- and its value is that of any other such polynomial
    pub interpolation-only : (cs : List ℕ) → Interpolates ps vs cs → (x : ℕ) → polynomial_at (interpolation ps vs) x ≡ polynomial_at cs x
    interpolation-only cs h x = interpolants_agree ps vs hp apart (interpolation ps vs) cs interpolation-interpolates h x

    -- the value at x as a sum of the values given, each times its weight
    module _ (ws : List ℕ) (x : ℕ) (hx : x < 256) (weights : AreWeightsAt x ps ws) (as_long : length ws ≡ length ps) where
      weight-is : (t : ℕ) → t < length ps → polynomial_at (basis_polynomial ps t) x ≡ get_or ws t 0
      weight-is t h =
          let w = weights t h in
          interpolants_agree ps (unit_values (length ps) t) hp apart (basis_polynomial ps t) w.0 (basis-interpolates t h) w.1 x ∙ w.2

      weighted_to : (t : ℕ) → t ≤ length ps → polynomial_at (interpolation_to ps vs t) x ≡ sum_of_products (take t ws) (take t vs)
      unfolding interpolation_to polynomial_at sum_of_products
      weighted_to zero h = refl
      weighted_to (suc t) h =
          let bound : polynomial_at (basis_polynomial ps t) x < 256 = polynomial_at-bound (basis_polynomial ps t) x (basis-bytes t (omega arith)) hx in
          interpolation_to-suc t x (omega arith) hx
          ∙ ap₂ bit_xor (weighted_to t (omega arith))
          (product_comm (get_or vs t 0) (polynomial_at (basis_polynomial ps t) x) (hv t 0 (omega arith)) bound
          ∙ ap (λ w. field_product w (get_or vs t 0)) (weight-is t (omega arith)))
          ∙ sym (sum_of_products-more ws vs t (omega arith) (omega arith))

      pub weighted : (cs : List ℕ) → Interpolates ps vs cs → polynomial_at cs x ≡ sum_of_products ws vs
      weighted cs h =
          sym (interpolation-only cs h x) ∙ weighted_to (length ps) (omega arith)
          ∙ ap₂ sum_of_products (take_all (length ps) ws (omega arith)) (take_all (length ps) vs (omega arith))
