use Rattle.std.proofs.Common.{◌≡◌, ◌≢◌, ◌<◌, length, get_or, ap, ◌∙◌, arith, get_or-set_other, get_or-set_same, below_more}
use Rattle.std.proofs.lemmas.List.{length-set}
use Rattle.gf_field.specs.Field.{field_sum, field_product}
use Rattle.gf_field.proofs.Products.{product_one}
use Rattle.gf_field.proofs.Polynomials.{product_swap}
use Rattle.coin_deal.proofs.others.take_lowest.Goals as goal

pub loop-i-preserved : goal.loop-i-preserved
loop-i-preserved c =
    let i = c.loop-i.i in
    let held = c.loop-i.invariant in
    let point = get_or c.args.points.now i 0 in
    let within : i < length c.loop-i.values = omega (arith, held.size, c.requires.same_length) in
    let quotient : field_product point c.mul.result ≡ field_sum (get_or c.args.values.now i 0) c.args.lowest =
    ap (field_product point) c.mul.ensures
    ∙ product_swap point c.add.result c.inv.result (c.type_inv.points i).fits c.add.type_inv c.inv.type_inv
    ∙ ap (field_product c.add.result) c.inv.ensures ∙ product_one c.add.result c.add.type_inv
    ∙ c.add.ensures ∙ ap (λ v. field_sum v c.args.lowest) (held.left i (omega arith)) in
    record {
      size = length-set c.loop-i.values i c.mul.result ∙ held.size;
      bytes = below_more _ _ (λ k h. let ne : k ≢ i = omega arith in rw get_or-set_other (held.bytes k h)) (rw get_or-set_same c.mul.type_inv);
      taken = below_more _ _
          (λ k h. let ne : k ≢ i = omega arith in rw get_or-set_other (held.taken k h))
          (rw get_or-set_same quotient);
      left = λ k h. let ne : k ≢ i = omega arith in rw get_or-set_other (held.left k (omega arith));
    }
