-- Each put pass has a share of the right to put. The first pass begins with the whole right, and a split halves the pass's share,
-- so that a pass which comes from n splits has one part in 2 ^ n.
use Rattle.std.specs.Prelude.{◌≡◌, ℕ, ◌+◌, ◌-◌, ◌^◌, ◌≤◌, List, [], ◌∷◌}

abbrev pub AreAtMost : ℕ → List ℕ → Type 0
AreAtMost most [] = Unit {0}
AreAtMost most (n ∷ ns) = (n ≤ most) × AreAtMost most ns

-- the shares added up, in parts of one in 2 ^ finest
abbrev pub parts_of : ℕ → List ℕ → ℕ
parts_of finest [] = 0
parts_of finest (splits ∷ more) = 2 ^ (finest - splits) + parts_of finest more

-- the shares add up to the whole right, so no pass is missing
abbrev pub AreWhole : List ℕ → Type 0
AreWhole splits = (finest : ℕ) × AreAtMost finest splits × (parts_of finest splits ≡ 2 ^ finest)
