-- Bytes that were taken and are not used yet, and how many more may be taken.
use Rattle.std.specs.Prelude.{ℕ, List}

pub record Span : Type 0 where
  pub bytes : List ℕ
  pub budget : ℕ
