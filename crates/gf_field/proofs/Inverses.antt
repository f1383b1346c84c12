-- Inverses; and that no product of elements that are not 0 is 0.
use Rattle.std.proofs.Common.{◌≡◌, ℕ, ◌<◌, sym, ap, ◌∙◌, arith}
use Rattle.gf_field.specs.Field.{field_product, field_inverse}
use Rattle.gf_field.proofs.Products.{product_comm, product_assoc, one_product, product_zero}
use Rattle.gf_field.proofs.Powers.{field_power-bound, field_power-more, field_power-255}

pub inverse-bound : (a : ℕ) → a < 256 → field_inverse a < 256
unfolding field_inverse
inverse-bound a h = field_power-bound a 254 h

pub product-inverse : (a : ℕ) → 0 < a → a < 256 → field_product a (field_inverse a) ≡ 1
unfolding field_inverse
product-inverse a some h = sym (field_power-more a 254) ∙ field_power-255 a some h

-- a factor that is not 0 can be taken away
pub product_cancel : (a b c : ℕ) → 0 < a → a < 256 → b < 256 → c < 256 → field_product a b ≡ field_product a c → b ≡ c
product_cancel a b c some ha hb hc e =
    let back : (y : ℕ) → y < 256 → field_product (field_inverse a) (field_product a y) ≡ y =
    λ y hy. sym (product_assoc (field_inverse a) a y (inverse-bound a ha) ha hy)
    ∙ ap (λ z. field_product z y) (product_comm (field_inverse a) a (inverse-bound a ha) ha ∙ product-inverse a some ha)
    ∙ one_product y hy in
    sym (back b hb) ∙ ap (field_product (field_inverse a)) e ∙ back c hc

pub no_zero_divisor : (a b : ℕ) → 0 < a → a < 256 → b < 256 → field_product a b ≡ 0 → b ≡ 0
no_zero_divisor a b some ha hb e = product_cancel a b 0 some ha hb (omega arith) (e ∙ sym (product_zero a))
