-- Of what nodes have shown, the first of each node.
use Rattle.std.specs.Prelude.{ℕ, Bool, ◌==◌, List, [], ◌∷◌, ◌++◌, if◌then◌else◌, fold}
use Rattle.std.specs.List.{list_any}

-- whether something of this node is among them
abbrev pub has_node : {A : Type 0} → List (ℕ × A) → ℕ → Bool
has_node shown m = list_any (λ x. x.0 == m) shown

-- with one more, where its node has none
abbrev pub with_first : {A : Type 0} → List (ℕ × A) → ℕ × A → List (ℕ × A)
with_first shown x = if has_node shown x.0 then shown else shown ++ x ∷ []

-- the first of each node, in order
abbrev pub firsts_shown : {A : Type 0} → List (ℕ × A) → List (ℕ × A)
firsts_shown xs = fold with_first [] xs
