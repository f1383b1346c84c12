-- What a source was read as.
use Rattle.std.specs.Prelude.{ℕ, ◌<◌, ◌≤◌, List, length, Result, Ok, Err}
use Rattle.hb_base.specs.Limits.{most_posts}
use Rattle.hb_base.specs.Numbers.{Numbers}
use Rattle.hb_base.specs.Outside.{Rose}
use Rattle.hb_wire.specs.declared.post.Post.{Post}
use Rattle.input_reader.specs.Input.{ReadsMost}
use Rattle.input_reader.specs.Streams.{SourceView, IsFaultless, ReadsAll}
use Rattle.trace_reader.specs.declared.trace.Trace.{Trace}
use Rattle.trace_reader.specs.declared.fault.TraceFault.{TraceFault}
use Rattle.trace_reader.specs.declared.fault.TraceFault.TheVariants.{ReadFault, TooLong, NotATrace, Memory}
use Rattle.trace_reader.specs.Trace.{longest_trace, IsTrace, IsNoTrace, BreaksAt}

-- Bytes were read as the text of a run with config c and of these posts, which are fewer than a history may have.
abbrev pub IsReadAs : List ℕ → Numbers → List Post → Type 0
IsReadAs bytes c posts = IsTrace bytes c posts × (length posts < most_posts)

-- Why bytes that are not too long gave no trace: they are none, or there was no memory, which may hide what they are.
abbrev pub IsRefusedAs : List ℕ → TraceFault → Type 0
IsRefusedAs bytes (NotATrace line) = IsNoTrace bytes × BreaksAt bytes line
IsRefusedAs bytes Memory = Unit {0}
IsRefusedAs bytes ReadFault = ⊥
IsRefusedAs bytes TooLong = ⊥

-- The source was read to its end, and had bytes, not too many, of which this holds.
abbrev pub ReadsWhole : SourceView → SourceView → (List ℕ → Type 0) → Type 0
ReadsWhole old new holds = (bytes : List ℕ) × (length bytes ≤ longest_trace) × ReadsAll old new bytes × holds bytes

-- Why a source gave no trace. NotATrace: all its bytes are none. TooLong: one byte more than a trace may have was taken.
-- ReadFault: a take failed. Memory: there was none, and no take failed.
abbrev pub IsRefusal : SourceView → SourceView → TraceFault → Type 0
IsRefusal old new (NotATrace line) = ReadsWhole old new (λ bytes. IsNoTrace bytes × BreaksAt bytes line)
IsRefusal old new TooLong = ReadsMost longest_trace old new
IsRefusal old new ReadFault = Rose old.faults new.faults
IsRefusal old new Memory = IsFaultless old new

-- What a source was read as.
abbrev pub ReadsTrace : SourceView → SourceView → Result Trace TraceFault → Type 0
ReadsTrace old new (Ok trace) = ReadsWhole old new (λ bytes. IsReadAs bytes trace.config trace.posts.items)
ReadsTrace old new (Err fault) = IsRefusal old new fault
