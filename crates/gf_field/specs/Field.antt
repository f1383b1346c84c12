-- GF(256): a byte is a polynomial over bits of degree below 8, bit i being the coefficient of x^i.
use Rattle.std.specs.Prelude.{ℕ, zero, suc, ◌+◌, ◌*◌, ◌^◌, bit_xor}
use Rattle.std.specs.Int.{bit_at}

-- the sum of two polynomials over bits
abbrev pub field_sum : ℕ → ℕ → ℕ
field_sum a b = bit_xor a b

-- the product of two polynomials over bits, of which the first has a degree below `places`:
-- the sum of b * x^i over the places i at which a has a one
unfoldable pub unreduced_product : ℕ → ℕ → ℕ → ℕ
unreduced_product zero a b = 0
unreduced_product (suc i) a b = field_sum (unreduced_product i a b) (bit_at a i * (b * 2 ^ i))

-- what division by x^8 + x^4 + x^3 + x^2 + 1 leaves of a polynomial of degree below 8 + places:
-- from the highest place down, a multiple of the divisor is taken away wherever there is a one
unfoldable pub remainder : ℕ → ℕ → ℕ
remainder zero p = p
remainder (suc i) p = remainder i (field_sum p (bit_at p (8 + i) * (0x11D * 2 ^ i)))

-- the product of two polynomials over bits of degree below 8, reduced
unfoldable pub field_product : ℕ → ℕ → ℕ
field_product a b = remainder 7 (unreduced_product 8 a b)

-- the power of an element with this exponent
unfoldable pub field_power : ℕ → ℕ → ℕ
field_power a zero = 1
field_power a (suc i) = field_product a (field_power a i)

-- The inverse of an element but 0: each of these 255 has 1 as its power with the exponent 255.
unfoldable pub field_inverse : ℕ → ℕ
field_inverse a = field_power a 254
