use Rattle.std.proofs.Common.{arith, sym, ap, ap₂, ◌∙◌, ⊎_elim}
use Rattle.gf_field.specs.Field.{field_product}
use Rattle.gf_field.proofs.mul.Goals as goal
use Rattle.gf_field.proofs.Powers.{field_power-add}
use Rattle.gf_field.proofs.Products.{zero_product, product_zero}

pub returns-then-b-eq0 : goal.returns-then-b-eq0
returns-then-b-eq0 c =
    ⊎_elim (λ none. sym (ap (λ a. field_product a c.args.b) none ∙ zero_product c.args.b))
    (λ some. sym (ap (field_product c.args.a) some.1 ∙ product_zero c.args.a))
    c.if-b-eq0.either

pub returns-else-b-eq0 : goal.returns-else-b-eq0
returns-else-b-eq0 c =
    c.power.ensures ∙ field_power-add 2 c.logarithm.result c.logarithm-else-b-eq0.result (omega arith) ∙ ap₂ field_product c.logarithm.ensures.power c.logarithm-else-b-eq0.ensures.power
