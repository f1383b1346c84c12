-- Reading an input to its end.
use Rattle.std.specs.Prelude.{◌≡◌, ℕ, ◌+◌, ◌≤◌, List, length}
use Rattle.std.specs.Io.KnownBytes.{Consumes}
use Rattle.hb_base.specs.Outside.{Rose}
use Rattle.input_reader.specs.declared.input.Input.{Input}
use Rattle.input_reader.specs.declared.input.Input.TheVariants.{Whole, TooLong, Failed, Memory}
use Rattle.input_reader.specs.Streams.{SourceView, IsFaultless, ReadsAll}

-- Of an input of at most so many bytes one more was taken: that shows that there are more.
abbrev pub ReadsMost : ℕ → SourceView → SourceView → Type 0
ReadsMost longest old new = (bytes : List ℕ) × (length bytes ≡ longest + 1) × Consumes old.left new.left bytes × IsFaultless old new

-- What a source was read as. Whole: all that it had. TooLong: one byte more than it may have was taken. Failed: a take
-- failed. Memory: there was none for the bytes, and no take failed.
abbrev pub ReadsAs : ℕ → SourceView → SourceView → Input → Type 0
ReadsAs longest old new (Whole bytes) = (length bytes.items ≤ longest) × ReadsAll old new bytes.items
ReadsAs longest old new TooLong = ReadsMost longest old new
ReadsAs longest old new Failed = Rose old.faults new.faults
ReadsAs longest old new Memory = IsFaultless old new
