use Rattle.std.proofs.Common.{◌≡◌, ◌+◌, ◌-◌, sym, ap, ap₂, ◌∙◌, arith}
use Rattle.gf_field.specs.Field.{field_product, field_power}
use Rattle.gf_field.proofs.inv.Goals as goal
use Rattle.gf_field.proofs.Powers.{field_power-add, two_power-255}

-- the two exponents add up to 255, and the power with this exponent is 1
pub returns : goal.returns
returns c =
    let l = c.logarithm.result in
    let e : l + (255 - l) ≡ 255 = omega arith in
    ap₂ field_product (sym c.logarithm.ensures.power) c.power.ensures ∙ sym (field_power-add 2 l (255 - l) (omega arith)) ∙ ap (field_power 2) e ∙ two_power-255
