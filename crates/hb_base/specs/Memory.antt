-- Sources and sinks in memory.
use Rattle.std.specs.Prelude.{ℕ, List}

-- what a `MemorySource` has left, how many bytes it gives in one call, and which of its calls fail
pub record Tape : Type 0 where
  pub left : List ℕ
  pub step : ℕ
  pub failing : List ℕ
  pub calls : ℕ
  pub faults : ℕ

-- what a `MemorySink` holds, for how many bytes it has room without asking for memory, and which of its calls fail
pub record Shelf : Type 0 where
  pub held : List ℕ
  pub room : ℕ
  pub failing : List ℕ
  pub calls : ℕ
  pub faults : ℕ
