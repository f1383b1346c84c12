-- The weights of points, one after another.
use Rattle.std.proofs.Common.{◌≡◌, ℕ, ◌+◌, ◌<◌, List, [], ◌∷◌, ◌++◌, length, get_or, sym, ap, ◌∙◌, arith, below_more}
use Rattle.std.proofs.lemmas.List.{get_or_append_left, get_or_at}
use Rattle.gf_field.specs.Polynomial.{polynomial_at, Interpolates, unit_values}

-- the k-th weight is the value at x of the polynomial that is 1 at the point k and 0 at the others
abbrev pub IsWeight : List ℕ → ℕ → List ℕ → ℕ → Type 0
IsWeight points x weights k = (cs : List ℕ) × Interpolates points (unit_values (length points) k) cs × (polynomial_at cs x ≡ get_or weights k 0)

pub one_weight_more : (points weights after : List ℕ) (x i weight : ℕ) → length weights ≡ i → after ≡ weights ++ weight ∷ []
    → (cs : List ℕ) → Interpolates points (unit_values (length points) i) cs → weight ≡ polynomial_at cs x
    → ((k : ℕ) → k < i → IsWeight points x weights k) → (k : ℕ) → k < i + 1 → IsWeight points x after k
one_weight_more points weights after x i weight count pushed cs h value so_far =
    below_more (IsWeight points x after) i
    (λ k l.
    let w = so_far k l in
    let lk : k < length weights = omega arith in
    (w.0, w.1, w.2 ∙ sym (ap (λ ws. get_or ws k 0) pushed ∙ get_or_append_left weights (weight ∷ []) 0 k lk)))
    (cs, h, sym value ∙ sym (ap (λ ws. get_or ws i 0) pushed ∙ get_or_at weights weight [] 0 i count))
