use Rattle.gf_field.proofs.laws.field_laws.Goals as goal
use lib.Bits.{xor_comm, xor_lt}
use Rattle.gf_field.proofs.Products.{product-bound, product_assoc, product_comm, product_one, product-sum_right}
use Rattle.gf_field.proofs.Inverses.{inverse-bound, product-inverse, no_zero_divisor}

pub returns-clause-sum_closed : goal.returns-clause-sum_closed
returns-clause-sum_closed c = xor_lt 8

pub returns-clause-sum_commutative : goal.returns-clause-sum_commutative
returns-clause-sum_commutative c = xor_comm

pub returns-clause-product_closed : goal.returns-clause-product_closed
returns-clause-product_closed c = product-bound

pub returns-clause-product_associative : goal.returns-clause-product_associative
returns-clause-product_associative c = product_assoc

pub returns-clause-product_commutative : goal.returns-clause-product_commutative
returns-clause-product_commutative c = product_comm

pub returns-clause-product_identity : goal.returns-clause-product_identity
returns-clause-product_identity c = product_one

pub returns-clause-product_inverse : goal.returns-clause-product_inverse
returns-clause-product_inverse c a some h = (inverse-bound a h, product-inverse a some h)

pub returns-clause-distributive : goal.returns-clause-distributive
returns-clause-distributive c = product-sum_right

pub returns-clause-no_zero_divisors : goal.returns-clause-no_zero_divisors
returns-clause-no_zero_divisors c = no_zero_divisor
