-- What is seen of a source, and what calls on it come to.
use Rattle.std.specs.Prelude.{◌≡◌, ℕ, ◌≤◌, List, length, Option}
use Rattle.std.specs.Io.KnownBytes.{Consumes, IsAtEnd}

-- a source: what it has left, where it tells that, and how many of its calls have failed
pub record SourceView : Type 0 where
  pub left : Option (List ℕ)
  pub faults : ℕ

-- the source that is seen through the two members of its trait
abbrev pub source_view : {S : Type 0} → (S → Option (List ℕ)) → (S → ℕ) → S → SourceView
source_view left faults source = record { left = left source; faults = faults source }

-- no take failed
abbrev pub IsFaultless : SourceView → SourceView → Type 0
IsFaultless old new = new.faults ≡ old.faults

-- the source was read to its end, and had these bytes
abbrev pub ReadsAll : SourceView → SourceView → List ℕ → Type 0
ReadsAll old new bytes = Consumes old.left new.left bytes × IsAtEnd new.left × IsFaultless old new

-- some bytes were taken, so many at most, and all behind them is left
pub record TakesAtMost (most : ℕ) (old new : SourceView) : Type 0 where
  pub taken : List ℕ
  pub few : length taken ≤ most
  pub rest : Consumes old.left new.left taken
