-- What a call of the program answers, and for each status what was told, written, taken and left. Each field says what a status
-- means, or which statuses there are. The letters: before and after are what the call finds and leaves.
use Rattle.std.specs.Prelude.{◌≡◌, ◌≢◌, ◌⊎◌, ℕ, ◌+◌, ◌<◌, ◌≤◌, List, length, Some, Ok, Err}
use Rattle.hb_base.specs.Numbers.{Numbers}
use Rattle.hb_base.specs.Outside.{Rose}
use Rattle.script_fault.specs.declared.fault.ScriptFault.{ScriptFault}
use Rattle.script_fault.specs.Line.{fault_line}
use Rattle.net_script.specs.Scenario.{Scenario}
use Rattle.script_reader.specs.Reading.{scenario_of}
use Rattle.scenario_gen.specs.Generated.{generated}
use Rattle.hb_wire.specs.declared.post.Post.{Post}
use Rattle.hb_rules.specs.History.{IsLegal}
use Rattle.hb_rules.specs.Strings.{NoCollision}
use Rattle.ledger_text.specs.Text.{soak_text}
use Rattle.history_verdict.specs.declared.verdict.Verdict.{Verdict}
use Rattle.history_verdict.specs.declared.verdict.Verdict.TheVariants.{Legal, Illegal}
use Rattle.trace_reader.specs.declared.fault.TraceFault.{TraceFault}
use Rattle.trace_reader.specs.declared.fault.TraceFault.TheVariants.{ReadFault, Memory}
use Rattle.trace_reader.specs.Trace.{longest_trace, IsTrace, IsNoTrace}
use Rattle.trace_audit.specs.Audits.{Audits}
use Rattle.verdict_text.specs.Text.{verdict_line, refusal_line}
use Rattle.input_reader.specs.Streams.{IsFaultless, TakesAtMost}
use Rattle.hb_app.specs.declared.command.Text.{Text}
use Rattle.hb_app.specs.Audited.{IsOfBytes}
use Rattle.hb_app.specs.Headline.{Headline}
use Rattle.hb_app.specs.Input.{most_taken, Says, Refuses}
use Rattle.hb_app.specs.Lines.{read_line, write_line, memory_line}
use Rattle.hb_app.specs.Printed.{text_of, WantsMemory}
use Rattle.hb_app.specs.Scene.{Scene, IsNotRun, NoPutFails}
use Rattle.hb_app.specs.Streams.{IsUntouched, IsUnused, HasPut, FailsWithin, PutsOrFails}

-- the statuses of runs in which no correct actor found no memory
abbrev pub IsRunStatus : ℕ → Type 0
IsRunStatus status = (status ≡ 0) ⊎ (status ≡ 4) ⊎ (status ≡ 5)

-- the whole input was read, and says a scenario whose run the report is of
abbrev pub IsRunOfInput : {O E : Type 0} → List (List ℕ) → Scene O E → Scene O E → Type 0
IsRunOfInput names before after = (s : Scenario) × Says names before.source after.source (Ok s) × Headline s after.report

-- A call that runs the scenario on the input, whose liars are of a cast with these names, and prints this text of the run.
pub record RunStatuses {O E : Type 0} (text : Text) (names : List (List ℕ)) (before after : Scene O E) (status : ℕ) : Type 0 where
  -- after 0, 4 and 5 there was a run, of this status, the text of it was written whole, and nothing was told
  pub ran : IsRunStatus status → IsRunOfInput names before after × (after.report.status ≡ status)
      × HasPut before.out after.out (text_of text after.report) × IsUntouched before.err after.err
  -- after 3 the input has this first fault, whose line was told
  pub refused : status ≡ 3 → (fault : ScriptFault) × Refuses names before.source after.source fault × IsNotRun before after
      × HasPut before.err after.err (fault_line fault)
  -- after 6 a take failed, which was told
  pub read_failed : status ≡ 6 → Rose before.source.faults after.source.faults × IsNotRun before after × HasPut before.err after.err read_line
  -- after 7 a put failed: on the output, within the text of a run, or on the error sink, where 3 or 6 was to be told
  pub write_failed : status ≡ 7
      → (IsRunOfInput names before after × FailsWithin before.out after.out (text_of text after.report) × PutsOrFails before.err after.err write_line)
      ⊎ ((fault : ScriptFault) × Refuses names before.source after.source fault × IsNotRun before after × FailsWithin before.err after.err (fault_line fault))
      ⊎ (Rose before.source.faults after.source.faults × IsNotRun before after × FailsWithin before.err after.err read_line)
  -- after 9 memory was wanting: for a correct actor, and the text was written whole; for the text; or for the run
  pub memory : status ≡ 9 → PutsOrFails before.err after.err memory_line
      × ((IsRunOfInput names before after × (after.report.status ≡ 9) × HasPut before.out after.out (text_of text after.report))
      ⊎ (IsRunOfInput names before after × WantsMemory text × IsUnused before.out after.out)
      ⊎ (IsFaultless before.source after.source × IsNotRun before after))
  -- there is no other status
  pub no_other : IsRunStatus status ⊎ (status ≡ 3) ⊎ (status ≡ 6) ⊎ (status ≡ 7) ⊎ (status ≡ 9)
  -- a put on the output that failed answers 7
  pub put_failed : after.out.faults ≢ before.out.faults → status ≡ 7
  -- so does one on the error sink, but for the line of 9
  pub tell_failed : after.err.faults ≢ before.err.faults → (status ≡ 7) ⊎ ((status ≡ 9) × FailsWithin before.err after.err memory_line)
  -- whatever is answered, at most one byte more was taken than a scenario may have
  pub taken : TakesAtMost most_taken before.source after.source
  -- a take that failed answers 6, or 7 where that can't be told
  pub take_failed : after.source.faults ≢ before.source.faults → (status ≡ 6) ⊎ ((status ≡ 7) × FailsWithin before.err after.err read_line)
  -- input that is no scenario answers 3, or 9, unless something failed
  pub faulty : (input : List ℕ) (fault : ScriptFault) → before.source.left ≡ Some input → scenario_of input names ≡ Err fault
      → (status ≡ 3) ⊎ ((status ≡ 6) × Rose before.source.faults after.source.faults)
      ⊎ ((status ≡ 7) × Rose before.err.faults after.err.faults) ⊎ (status ≡ 9)
  -- a scenario answers 0, 4, 5 or 9 where nothing failed
  pub complete : (input : List ℕ) (s : Scenario) → before.source.left ≡ Some input → scenario_of input names ≡ Ok s
      → (Rose before.source.faults after.source.faults → ⊥) → NoPutFails before after → IsRunStatus status ⊎ (status ≡ 9)

-- A call that runs the scenario of a number, and prints whether the ledgers agree.
pub record SoakStatuses {O E : Type 0} (number : ℕ) (before after : Scene O E) (status : ℕ) : Type 0 where
  -- after 0, 4 and 5 there was a run, of this status, the text of it was written whole, and nothing was told
  pub ran : IsRunStatus status → Headline (generated number) after.report × (after.report.status ≡ status)
      × HasPut before.out after.out (soak_text number after.report) × IsUntouched before.err after.err
  -- after 7 a put on the output failed, within the text of the run
  pub write_failed : status ≡ 7 → Headline (generated number) after.report × FailsWithin before.out after.out (soak_text number after.report)
      × PutsOrFails before.err after.err write_line
  -- after 9 memory was wanting: for a correct actor, and the text was written whole; or for the run
  pub memory : status ≡ 9 → PutsOrFails before.err after.err memory_line
      × ((Headline (generated number) after.report × (after.report.status ≡ 9) × HasPut before.out after.out (soak_text number after.report))
      ⊎ IsNotRun before after)
  -- there is no other status
  pub no_other : IsRunStatus status ⊎ (status ≡ 7) ⊎ (status ≡ 9)
  -- a put on the output that failed answers 7
  pub put_failed : after.out.faults ≢ before.out.faults → status ≡ 7
  -- a put on the error sink fails only where the line of 7 or of 9 was to be told
  pub tell_failed : after.err.faults ≢ before.err.faults → (status ≡ 7) ⊎ ((status ≡ 9) × FailsWithin before.err after.err memory_line)
  -- where no put fails, the status is 0, 4, 5 or 9
  pub complete : NoPutFails before after → IsRunStatus status ⊎ (status ≡ 9)

-- there is no history to judge, for this reason, and nothing was written
abbrev pub IsNotAudited : {O E : Type 0} → Scene O E → Scene O E → TraceFault → Type 0
IsNotAudited before after fault = Audits before.source after.source (Err fault) × IsUntouched before.out after.out

-- A call that reads the text of a history and judges it.
pub record AuditStatuses {O E : Type 0} (before after : Scene O E) (status : ℕ) : Type 0 where
  -- after 0 the input is the text of a legal history of so many posts, which was written, and nothing was told
  pub legal : status ≡ 0 → (posts : ℕ) × Audits before.source after.source (Ok (Legal posts)) × HasPut before.out after.out (verdict_line (Legal posts))
      × IsUntouched before.err after.err
  -- After 8 the input is the text of a history that is legal before this post, whose number was written, and nothing was told.
  -- Where no two strings that count as hashed in the posts up to this one share a digest, they are not legal with it.
  pub illegal : status ≡ 8 → (post : ℕ) × Audits before.source after.source (Ok (Illegal post)) × HasPut before.out after.out (verdict_line (Illegal post))
      × IsUntouched before.err after.err
  -- after 3 the input is no text of a history, or too long, which was told
  pub refused : status ≡ 3 → (fault : TraceFault) × IsOfBytes fault × IsNotAudited before after fault × HasPut before.err after.err (refusal_line fault)
  -- after 6 a take failed, which was told
  pub read_failed : status ≡ 6 → IsNotAudited before after ReadFault × HasPut before.err after.err read_line
  -- after 7 a put failed: on the output, within the line of a verdict, or on the error sink, where 3 or 6 was to be told
  pub write_failed : status ≡ 7
      → ((verdict : Verdict) × Audits before.source after.source (Ok verdict) × FailsWithin before.out after.out (verdict_line verdict)
      × PutsOrFails before.err after.err write_line)
      ⊎ ((fault : TraceFault) × IsOfBytes fault × IsNotAudited before after fault × FailsWithin before.err after.err (refusal_line fault))
      ⊎ (IsNotAudited before after ReadFault × FailsWithin before.err after.err read_line)
  -- after 9 memory was wanting for the text or for the verdict
  pub memory : status ≡ 9 → IsNotAudited before after Memory × PutsOrFails before.err after.err memory_line
  -- there is no other status
  pub no_other : (status ≡ 0) ⊎ (status ≡ 8) ⊎ (status ≡ 3) ⊎ (status ≡ 6) ⊎ (status ≡ 7) ⊎ (status ≡ 9)
  -- a put on the output that failed answers 7
  pub put_failed : after.out.faults ≢ before.out.faults → status ≡ 7
  -- so does one on the error sink, but for the line of 9
  pub tell_failed : after.err.faults ≢ before.err.faults → (status ≡ 7) ⊎ ((status ≡ 9) × FailsWithin before.err after.err memory_line)
  -- whatever is answered, the report stays
  pub report : after.report ≡ before.report
  -- and at most one byte more was taken than the text of a history may have
  pub taken : TakesAtMost (longest_trace + 1) before.source after.source
  -- a take that failed answers 6, or 7 where that can't be told
  pub take_failed : after.source.faults ≢ before.source.faults → (status ≡ 6) ⊎ ((status ≡ 7) × FailsWithin before.err after.err read_line)
  -- input that is no text of a history, or too long, answers 3, or 9, unless something failed
  pub faulty : (input : List ℕ) → before.source.left ≡ Some input → (longest_trace < length input) ⊎ IsNoTrace input
      → (status ≡ 3) ⊎ ((status ≡ 6) × Rose before.source.faults after.source.faults)
      ⊎ ((status ≡ 7) × Rose before.err.faults after.err.faults) ⊎ (status ≡ 9)
  -- Where nothing failed, the text of a history answers 0, 8 or 9. After 0 it is legal. After 8 it is not, where no two strings
  -- that count as hashed in it share a digest.
  pub complete : (input : List ℕ) (c : Numbers) (posts : List Post) → before.source.left ≡ Some input → length input ≤ longest_trace
      → IsTrace input c posts → (Rose before.source.faults after.source.faults → ⊥) → NoPutFails before after
      → ((status ≡ 0) × IsLegal c posts) ⊎ ((status ≡ 8) × (NoCollision c posts → IsLegal c posts → ⊥)) ⊎ (status ≡ 9)
