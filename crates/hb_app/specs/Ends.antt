-- How the parts of a call end, and how far a call comes without threads.
use Rattle.std.specs.Prelude.{◌≡◌, ◌≢◌, ◌⊎◌, ℕ, ◌<◌, List, Result, Ok, Err}
use Rattle.hb_base.specs.Outside.{Rose}
use Rattle.script_fault.specs.declared.fault.ScriptFault.{ScriptFault}
use Rattle.script_fault.specs.Line.{fault_line}
use Rattle.net_script.specs.declared.script.Script.{Script}
use Rattle.net_script.specs.Scenario.{Scenario, told}
use Rattle.net_script.specs.Sound.{IsScenario}
use Rattle.hb_rules.specs.declared.report.Report.{Report}
use Rattle.input_reader.specs.Streams.{SourceView, IsFaultless, TakesAtMost}
use Rattle.hb_app.specs.declared.command.Text.{Text}
use Rattle.hb_app.specs.declared.reading.Unread.{Unread}
use Rattle.hb_app.specs.declared.reading.Unread.TheVariants.{Refused, ReadFailed, Memory}
use Rattle.hb_app.specs.declared.task.Progress.{Progress}
use Rattle.hb_app.specs.declared.task.Progress.TheVariants.{Ended, Workers}
use Rattle.hb_app.specs.declared.task.Task.{Task}
use Rattle.hb_app.specs.declared.task.Wanted.{Wanted}
use Rattle.hb_app.specs.declared.task.Wanted.TheVariants.{Word}
use Rattle.hb_app.specs.Headline.{Headline}
use Rattle.hb_app.specs.Input.{most_taken, Says, Refuses}
use Rattle.hb_app.specs.Lines.{read_line, write_line, memory_line}
use Rattle.hb_app.specs.Printed.{wanted_text, MayLackMemory}
use Rattle.hb_app.specs.Scene.{Scene, IsNotRun}
use Rattle.hb_app.specs.Streams.{SinkView, IsUntouched, IsUnused, HasPut, FailsWithin, PutsOrFails, PutsOr7}

-- ---- the input

-- why the input says no scenario to a cast with these names
abbrev pub ComesUnread : List (List ℕ) → SourceView → SourceView → Unread → Type 0
ComesUnread names old new (Refused fault) = Refuses names old new fault
ComesUnread names old new ReadFailed = Rose old.faults new.faults
ComesUnread names old new Memory = IsFaultless old new

-- the scenario that the whole input says, or why there is none
abbrev pub Reads : List (List ℕ) → SourceView → SourceView → Result Script Unread → Type 0
Reads names old new (Ok script) = Says names old new (Ok (told script)) × IsScenario (told script)
Reads names old new (Err unread) = ComesUnread names old new unread

-- where bytes were read that say this
abbrev pub ReadsBytes : Result Scenario ScriptFault → Result Script Unread → Type 0
ReadsBytes read (Ok script) = (read ≡ Ok (told script)) × IsScenario (told script)
ReadsBytes read (Err (Refused fault)) = read ≡ Err fault
ReadsBytes read (Err ReadFailed) = ⊥
ReadsBytes read (Err Memory) = Unit {0}

-- what is told where there is none, and the status that is answered
abbrev pub EndsUnread : {E : Type 0} → Unread → SinkView E → SinkView E → ℕ → Type 0
EndsUnread (Refused fault) old new status = PutsOr7 old new (fault_line fault) 3 status
EndsUnread ReadFailed old new status = PutsOr7 old new read_line 6 status
EndsUnread Memory old new status = (status ≡ 9) × PutsOrFails old new memory_line

-- ---- a run

-- a run's status is answered, and that there was no memory is told where it says that
pub record AnswersRun {E : Type 0} (run : ℕ) (old new : SinkView E) (status : ℕ) : Type 0 where
  pub status_is : status ≡ run
  pub untold : run ≢ 9 → IsUntouched old new
  pub line : run ≡ 9 → PutsOrFails old new memory_line

-- the text that is wanted was put, or a front of it, or nothing for want of memory, and what goes with that was answered
abbrev pub EndsText : {O E : Type 0} → Wanted → Report → SinkView O → SinkView O → SinkView E → SinkView E → ℕ → Type 0
EndsText wanted report out out_after err err_after status =
    (HasPut out out_after (wanted_text wanted report) × AnswersRun report.status err err_after status)
    ⊎ (FailsWithin out out_after (wanted_text wanted report) × (status ≡ 7) × PutsOrFails err err_after write_line)
    ⊎ (MayLackMemory wanted × IsUnused out out_after × (status ≡ 9) × PutsOrFails err err_after memory_line)

-- there was a run of this scenario, whose text is wanted, or no memory for one
abbrev pub EndsRun : {O E : Type 0} → Wanted → Scenario → SinkView O → SinkView O → SinkView E → SinkView E → Report → Report → ℕ → Type 0
EndsRun wanted s out out_after err err_after report report_after status =
    (Headline s report_after × EndsText wanted report_after out out_after err err_after status)
    ⊎ (IsUntouched out out_after × (report_after ≡ report) × (status ≡ 9) × PutsOrFails err err_after memory_line)

-- ---- how far a call comes without threads. X and F are what the type of a liar in a cast is made of.

-- it has ended with a status of which this is so, or there is left what is such a run
abbrev pub Comes : {X : Type 0} {F : X → Type 0} → Progress X F → (ℕ → Type 0) → (Task X F → Type 0) → Type 0
Comes (Ended status) ended left = ended status
Comes (Workers task) ended left = left task

-- A run of this scenario is left, of which this is wanted. It asks for workers. Nothing was written or told, and the report
-- stays.
pub record IsLeft {X : Type 0} {F : X → Type 0} {O E : Type 0} (wanted : Wanted) (s : Scenario) (before after : Scene O E) (task : Task X F) : Type 0 where
  pub wanted_is : task.wanted ≡ wanted
  pub scenario : told task.script ≡ s
  pub workers : 0 < task.script.workers
  pub not_run : IsNotRun before after
  pub untold : IsUntouched before.err after.err

-- so is the run of the scenario that the whole input says to a cast with these names
abbrev pub IsLeftOfInput : {X : Type 0} {F : X → Type 0} {O E : Type 0} → Text → List (List ℕ) → Scene O E → Scene O E → Task X F → Type 0
IsLeftOfInput text names before after task =
    (s : Scenario) × Says names before.source after.source (Ok s) × TakesAtMost most_taken before.source after.source
    × IsLeft (Word text) s before after task

-- a run has ended, or is left as it was asked for
abbrev pub Begins : {X : Type 0} {F : X → Type 0} {O E : Type 0} → Task X F → SinkView O → SinkView O → SinkView E → SinkView E → Report → Report
    → Progress X F → Type 0
Begins task out out_after err err_after report report_after (Ended status) =
    EndsRun task.wanted (told task.script) out out_after err err_after report report_after status
Begins task out out_after err err_after report report_after (Workers left) =
    (left ≡ task) × (0 < task.script.workers) × IsUntouched out out_after × IsUntouched err err_after × (report_after ≡ report)
