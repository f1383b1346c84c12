use Rattle.std.proofs.Common.{◌≡◌, length, get_or, sym, ap, ap₂, ◌∙◌, arith, bit_xor, add-one}
use Rattle.gf_field.specs.Field.{field_product}
use Rattle.gf_field.specs.Polynomial.{polynomial_at}
use Rattle.gf_field.specs.Interpolation.{basis_polynomial, interpolation_to}
use Rattle.gf_field.proofs.Interpolation.{AreBytes-from_fits, interpolation_to-none, interpolation_to-suc, interpolation-interpolates, interpolation-only}
use Rattle.gf_field.proofs.polynomial.interpolate_at.Goals as goal

pub loop-i-init : goal.loop-i-init
loop-i-init c = sym (interpolation_to-none c.args.points.now c.args.values.now c.args.x)

pub loop-i-preserved : goal.loop-i-preserved
loop-i-preserved c =
    let ps = c.args.points.now in
    let vs = c.args.values.now in
    let i = c.loop-i.i in
    let hp = AreBytes-from_fits ps c.type_inv.points in
    let hv = AreBytes-from_fits vs c.type_inv.values in
    c.add-sum.ensures
    ∙ ap₂ bit_xor c.loop-i.invariant
    (c.mul.ensures ∙ ap (field_product (get_or vs i 0)) (c.basis_at.ensures.value (basis_polynomial ps i) c.basis_at.ensures.exists))
    ∙ sym (interpolation_to-suc ps hp c.requires.distinct vs hv c.requires.same_length i c.args.x c.loop-i-test.true c.ranges.x.fits)
    ∙ ap (λ k. polynomial_at (interpolation_to ps vs k) c.args.x) (sym (add-one i))

pub returns-clause-exists : goal.returns-clause-exists
returns-clause-exists c =
    interpolation-interpolates c.args.points.now (AreBytes-from_fits c.args.points.now c.type_inv.points) c.requires.distinct
    c.args.values.now (AreBytes-from_fits c.args.values.now c.type_inv.values) c.requires.same_length

pub returns-clause-value : goal.returns-clause-value
returns-clause-value c cs h =
    let ps = c.args.points.now in
    let vs = c.args.values.now in
    let whole : c.loop-i.i ≡ length ps = omega arith in
    c.loop-i.invariant ∙ ap (λ k. polynomial_at (interpolation_to ps vs k) c.args.x) whole
    ∙ interpolation-only ps (AreBytes-from_fits ps c.type_inv.points) c.requires.distinct vs (AreBytes-from_fits vs c.type_inv.values) c.requires.same_length cs h c.args.x
