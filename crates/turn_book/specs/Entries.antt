-- Entries of a history, and the numbers that they name.
use Rattle.std.specs.Prelude.{◌≡◌, ℕ, ◌++◌, ◌==◌, ◌⊎◌, List, [], ◌∷◌, All, Contains, filter}

module _ {E : Type 0} (names : E → ℕ) where
  -- the entries that name this number, in their order
  abbrev pub entries_of : ℕ → List E → List E
  entries_of number entries = filter (λ e. names e == number) entries

  -- the new entries are the old ones, with at most one more, which names this number
  abbrev pub AddsAtMostOne : ℕ → List E → List E → Type 0
  AddsAtMostOne number old new = (new ≡ old) ⊎ ((e : E) × (names e ≡ number) × (new ≡ old ++ e ∷ []))

  -- each entry names 0 or one of the numbers given
  abbrev pub NamesGiven : List ℕ → List E → Type 0
  NamesGiven given entries = All (λ e. (names e ≡ 0) ⊎ Contains given (names e)) entries
