-- What is written and told of an audit.
use Rattle.std.specs.Prelude.{◌≡◌, ◌⊎◌, ℕ, Result, Ok, Err}
use Rattle.history_verdict.specs.declared.verdict.Verdict.{Verdict}
use Rattle.history_verdict.specs.declared.verdict.Verdict.TheVariants.{Legal, Illegal}
use Rattle.trace_reader.specs.declared.fault.TraceFault.{TraceFault}
use Rattle.trace_reader.specs.declared.fault.TraceFault.TheVariants.{ReadFault, TooLong, NotATrace, Memory}
use Rattle.verdict_text.specs.Text.{verdict_line, refusal_line}
use Rattle.hb_app.specs.Lines.{read_line, write_line, memory_line}
use Rattle.hb_app.specs.Streams.{SinkView, IsUntouched, HasPut, FailsWithin, PutsOrFails, PutsOr7}

-- the status of a verdict
abbrev pub verdict_status : Verdict → ℕ
verdict_status (Legal posts) = 0
verdict_status (Illegal post) = 8

-- why bytes are refused: they are no text of a history, or too many
abbrev pub IsOfBytes : TraceFault → Type 0
IsOfBytes ReadFault = ⊥
IsOfBytes TooLong = Unit {0}
IsOfBytes (NotATrace line) = Unit {0}
IsOfBytes Memory = ⊥

-- what is put, with the output and the error sink before and after, and the status that is answered
abbrev pub EndsAudit : {O E : Type 0} → Result Verdict TraceFault → SinkView O → SinkView O → SinkView E → SinkView E → ℕ → Type 0
EndsAudit (Ok verdict) out out_after err err_after status =
    ((status ≡ verdict_status verdict) × HasPut out out_after (verdict_line verdict) × IsUntouched err err_after)
    ⊎ ((status ≡ 7) × FailsWithin out out_after (verdict_line verdict) × PutsOrFails err err_after write_line)
EndsAudit (Err ReadFault) out out_after err err_after status = IsUntouched out out_after × PutsOr7 err err_after read_line 6 status
EndsAudit (Err TooLong) out out_after err err_after status = IsUntouched out out_after × PutsOr7 err err_after (refusal_line TooLong) 3 status
EndsAudit (Err (NotATrace line)) out out_after err err_after status =
    IsUntouched out out_after × PutsOr7 err err_after (refusal_line (NotATrace line)) 3 status
EndsAudit (Err Memory) out out_after err err_after status = IsUntouched out out_after × (status ≡ 9) × PutsOrFails err err_after memory_line
