-- An entry that is being built.
use Rattle.std.specs.Prelude.{ℕ, List}

-- its payload so far, and how many bytes more it takes with no memory asked for
pub record EntryView : Type 0 where
  pub payload : List ℕ
  pub room : ℕ
