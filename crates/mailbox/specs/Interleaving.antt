-- One list that several lists were put into, each in its own order.
use Rattle.std.specs.Prelude.{◌≡◌, ◌<◌, ℕ, List, length, [], ◌∷◌, ◌++◌, if◌then◌else◌, ◌==◌, slice_index_or}

-- numbers, each beside the place of the list that it comes from: the numbers alone, in order
abbrev pub numbers : List (ℕ × ℕ) → List ℕ
numbers [] = []
numbers (p ∷ places) = p.1 ∷ numbers places

-- the numbers that come from the list at the place k, in order
abbrev pub numbers_at : ℕ → List (ℕ × ℕ) → List ℕ
numbers_at k [] = []
numbers_at k (p ∷ places) = if p.0 == k then p.1 ∷ numbers_at k places else numbers_at k places

-- `whole` has each number of each list once and no other, and the numbers of one list stand in their order
abbrev pub IsInterleaving : List (List ℕ) → List ℕ → Type 0
IsInterleaving lists whole = (places : List (ℕ × ℕ)) × (numbers places ≡ whole) × ((k : ℕ) → numbers_at k places ≡ slice_index_or lists k [])

-- the same, but for other numbers that `whole` may have between them
abbrev pub HasAll : List (List ℕ) → List ℕ → Type 0
HasAll lists whole = (places : List (ℕ × ℕ)) × (numbers places ≡ whole) × ((k : ℕ) → k < length lists → numbers_at k places ≡ slice_index_or lists k [])

-- after these numbers there are more, at least one, and all together have each number of each list once and no other
abbrev pub IsMoreLeft : List (List ℕ) → List ℕ → Type 0
IsMoreLeft lists taken = (rest : List ℕ) × (0 < length rest) × IsInterleaving lists (taken ++ rest)
