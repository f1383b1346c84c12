-- The one polynomial through given points, by Lagrange's formula.
use Rattle.std.specs.Prelude.{ℕ, zero, suc, List, [], ◌∷◌, length, remove, slice_index}
use Rattle.gf_field.specs.Field.{field_sum, field_product, field_inverse}
use Rattle.gf_field.specs.Polynomial.{product_of_differences}

-- the sum of two polynomials
unfoldable pub polynomial_sum : List ℕ → List ℕ → List ℕ
polynomial_sum [] gs = gs
polynomial_sum (f ∷ fs) [] = f ∷ fs
polynomial_sum (f ∷ fs) (g ∷ gs) = field_sum f g ∷ polynomial_sum fs gs

-- the multiple of a polynomial by an element
unfoldable pub polynomial_multiple : ℕ → List ℕ → List ℕ
polynomial_multiple w [] = []
polynomial_multiple w (c ∷ cs) = field_product w c ∷ polynomial_multiple w cs

-- the product of x + p for each p, whose roots these are
unfoldable pub with_roots : List ℕ → List ℕ
with_roots [] = 1 ∷ []
with_roots (p ∷ ps) = polynomial_sum (polynomial_multiple p (with_roots ps)) (0 ∷ with_roots ps)

-- the polynomial that is 1 at the point at i and 0 at the others
unfoldable pub basis_polynomial : List ℕ → ℕ → List ℕ
basis_polynomial points i =
    let others = remove points i in
    polynomial_multiple (field_inverse (product_of_differences others (slice_index points i))) (with_roots others)

-- the sum of the first t of these, each times the value at its point
unfoldable pub interpolation_to : List ℕ → List ℕ → ℕ → List ℕ
interpolation_to points values zero = []
interpolation_to points values (suc t) =
    polynomial_sum (interpolation_to points values t) (polynomial_multiple (slice_index values t) (basis_polynomial points t))

-- The polynomial of a degree below the number of points that has the given value at each. It is that where the
-- points are distinct and there are as many values.
abbrev pub interpolation : List ℕ → List ℕ → List ℕ
interpolation points values = interpolation_to points values (length points)
