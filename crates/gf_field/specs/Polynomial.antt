-- Polynomials over the field, as lists of their coefficients, the lowest first.
use Rattle.std.specs.Prelude.{◌≡◌, ◌≢◌, ℕ, ◌<◌, ◌≤◌, List, [], ◌∷◌, length, AllPairs, slice_index, slice_set, replicate}
use Rattle.hb_base.specs.ByteLists.{AreBytes}
use Rattle.gf_field.specs.Field.{field_sum, field_product}

-- the value at x: c0 + x * (c1 + x * (c2 + ..))
unfoldable pub polynomial_at : List ℕ → ℕ → ℕ
polynomial_at [] x = 0
polynomial_at (c ∷ cs) x = field_sum c (field_product x (polynomial_at cs x))

-- no two are equal
abbrev pub AreDistinct : List ℕ → Type 0
AreDistinct xs = AllPairs (λ x y. x ≢ y) xs

-- a polynomial over the field of a degree below d
pub record HasDegreeBelow (d : ℕ) (coefficients : List ℕ) : Type 0 where
  pub short : length coefficients ≤ d
  pub bytes : AreBytes coefficients

-- a polynomial of a degree below the number of points whose value at each point is the one given for it
pub record Interpolates (points values coefficients : List ℕ) : Type 0 where
  pub degree : HasDegreeBelow (length points) coefficients
  pub passes : (i : ℕ) → i < length points → polynomial_at coefficients (slice_index points i) ≡ slice_index values i

-- 1 at place i of n, and 0 elsewhere
abbrev pub unit_values : ℕ → ℕ → List ℕ
unit_values n i = slice_set (replicate n 0) i 1

-- the weights are the values at x of the polynomials that are 1 at one point and 0 at the others, in order
abbrev pub AreWeightsAt : ℕ → List ℕ → List ℕ → Type 0
AreWeightsAt x points weights = (i : ℕ) → i < length points → (cs : List ℕ) × Interpolates points (unit_values (length points) i) cs × (polynomial_at cs x ≡ slice_index weights i)

-- the products of the elements of two lists, place by place, added up
unfoldable pub sum_of_products : List ℕ → List ℕ → ℕ
sum_of_products [] vs = 0
sum_of_products (w ∷ ws) [] = 0
sum_of_products (w ∷ ws) (v ∷ vs) = field_sum (field_product w v) (sum_of_products ws vs)

-- the product of the differences between x and each point
unfoldable pub product_of_differences : List ℕ → ℕ → ℕ
product_of_differences [] x = 1
product_of_differences (p ∷ ps) x = field_product (field_sum x p) (product_of_differences ps x)
