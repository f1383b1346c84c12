use Rattle.std.proofs.Common.{◌≡◌, ℕ, suc, ◌+◌, ◌-◌, ◌<◌, List, length, get_or, take, drop, sym, ap, ap₂, ◌∙◌, subst, arith, add-one}
use Rattle.std.proofs.lemmas.List.{take_all, length-drop}
use Rattle.std.specs.List.{remove}
use Rattle.gf_field.specs.Field.{field_product}
use Rattle.hb_base.specs.ByteLists.{AreBytes}
use Rattle.gf_field.specs.Polynomial.{AreDistinct, product_of_differences, unit_values}
use Rattle.gf_field.specs.Interpolation.{basis_polynomial}
use Rattle.gf_field.proofs.Interpolation.{AreBytes-from_fits, others_at, others_at-some, parts-product, scaled-is, basis-interpolates, interpolants_agree}
use Rattle.gf_field.proofs.polynomial.basis_at.Goals as goal

-- `&points[i + 1..]` is what stands behind the point i
behind : (ps : List ℕ) (i : ℕ) → take (length ps - (i + 1)) (drop (i + 1) ps) ≡ drop (suc i) ps
behind ps i = take_all (length ps - (i + 1)) (drop (i + 1) ps) (omega (arith, length-drop (i + 1) ps)) ∙ ap (λ k. drop k ps) (add-one i)

-- the product over the points before i and after it is the product over the points but i
both_parts : (ps : List ℕ) → AreBytes ps → AreDistinct ps → (i : ℕ) → i < length ps → (x before after both : ℕ) → x < 256
    → before ≡ product_of_differences (take i ps) x → after ≡ product_of_differences (take (length ps - (i + 1)) (drop (i + 1) ps)) x
    → both ≡ field_product before after → both ≡ product_of_differences (remove ps i) x
both_parts ps hp apart i hi x before after both hx is_before is_after is_both =
    is_both ∙ ap₂ field_product is_before (is_after ∙ ap (λ qs. product_of_differences qs x) (behind ps i)) ∙ parts-product ps hp apart i hi x hx

pub inv-requires : goal.inv-requires
inv-requires c =
    let ps = c.args.points.now in
    let i = c.args.i in
    let hp = AreBytes-from_fits ps c.type_inv.points in
    subst (λ d. 0 < d)
    (sym (both_parts ps hp c.requires.distinct i c.requires.within (get_or ps i 0) _ _ _ (hp i 0 c.requires.within)
    c.differences-3.ensures c.differences-4.ensures c.mul-denominator.ensures))
    (others_at-some ps hp c.requires.distinct i c.requires.within)

pub returns-clause-exists : goal.returns-clause-exists
returns-clause-exists c =
    basis-interpolates c.args.points.now (AreBytes-from_fits c.args.points.now c.type_inv.points) c.requires.distinct c.args.i c.requires.within

pub returns-clause-value : goal.returns-clause-value
returns-clause-value c cs h =
    let ps = c.args.points.now in
    let i = c.args.i in
    let x = c.args.x in
    let r = c.inv.result in
    let hp = AreBytes-from_fits ps c.type_inv.points in
    let numerator : c.mul-numerator.result ≡ product_of_differences (remove ps i) x =
    both_parts ps hp c.requires.distinct i c.requires.within x _ _ _ c.ranges.x.fits c.differences.ensures c.differences-2.ensures c.mul-numerator.ensures in
    let denominator : c.mul-denominator.result ≡ others_at ps i =
    both_parts ps hp c.requires.distinct i c.requires.within (get_or ps i 0) _ _ _ (hp i 0 c.requires.within)
    c.differences-3.ensures c.differences-4.ensures c.mul-denominator.ensures in
    let scale : field_product (others_at ps i) r ≡ 1 = ap (λ z. field_product z r) (sym denominator) ∙ c.inv.ensures in
    c.mul.ensures ∙ ap (field_product r) numerator
    ∙ scaled-is ps hp c.requires.distinct i c.requires.within x r c.ranges.x.fits c.inv.type_inv scale
    ∙ interpolants_agree ps (unit_values (length ps) i) hp c.requires.distinct (basis_polynomial ps i) cs (basis-interpolates ps hp c.requires.distinct i c.requires.within) h x
