-- What `audit` answers to what `trace` printed.
use Rattle.std.proofs.Common.{◌≡◌, ◌≢◌, ◌⊎◌, inl, inr, ℕ, ◌≤◌, List, [], All, length, Option, Some, Result, Ok, Err, sym, ap, ◌∙◌, subst, arith}
use Rattle.std.specs.Io.KnownBytes.{Appends}
use Rattle.hb_base.specs.Outside.{Rose}
use Rattle.hb_rules.specs.declared.report.Report.{Report}
use Rattle.hb_rules.specs.History.{IsLegal}
use Rattle.hb_rules.specs.Strings.{NoCollision}
use Rattle.input_reader.specs.Streams.{SourceView}
use Rattle.history_verdict.specs.declared.verdict.Verdict.{Verdict}
use Rattle.history_verdict.specs.declared.verdict.Verdict.TheVariants.{Legal, Illegal}
use Rattle.trace_text.specs.Text.{trace_text}
use Rattle.trace_reader.specs.declared.fault.TraceFault.{TraceFault}
use Rattle.trace_reader.specs.declared.fault.TraceFault.TheVariants.{ReadFault, TooLong, NotATrace, Memory}
use Rattle.trace_reader.specs.Trace.{longest_trace, IsConfig, IsPost}
use Rattle.trace_audit.specs.Audits.{Audits, FindsLegal}
use Rattle.verdict_text.specs.Text.{verdict_line}
use Rattle.hb_app.specs.declared.command.Text.TheVariants.{Trace}
use Rattle.hb_app.specs.Audited.{IsOfBytes}
use Rattle.hb_app.specs.Headline.{IsKept}
use Rattle.hb_app.specs.Scene.{Scene}
use Rattle.hb_app.specs.Statuses.{IsRunStatus, RunStatuses, AuditStatuses}

-- the law of audits of what was printed
abbrev pub PrintedIsLegal : Type 0
PrintedIsLegal = (report : Report) (old new : SourceView) (answer : Result Verdict TraceFault) → IsConfig report.config
    → All IsPost report.history.items → length (trace_text report) ≤ longest_trace → IsLegal report.config report.history.items
    → NoCollision report.config report.history.items → old.left ≡ Some (trace_text report) → Audits old new answer
    → FindsLegal (length report.history.items) answer

-- so much an audit of a source finds, whatever it answers
abbrev pub Finds : ℕ → SourceView → SourceView → Type 0
Finds posts old new = (answer : Result Verdict TraceFault) → Audits old new answer → FindsLegal posts answer

-- what was printed of a run is read as it was, and its history is legal
pub found_by : {O E : Type 0} {before after : Scene O E} {status : ℕ} → PrintedIsLegal → AuditStatuses before after status
    → IsKept before.report → before.source.left ≡ Some (trace_text before.report) → length (trace_text after.report) ≤ longest_trace
    → NoCollision after.report.config after.report.history.items → Finds (length after.report.history.items) before.source after.source
found_by {O} {E} {before} {after} law answered kept left short apart answer audited =
    let run : IsKept after.report = subst IsKept (sym answered.report) kept in
    law after.report before.source after.source answer run.trace.config run.trace.each short run.legal apart
    (left ∙ ap (λ (r : Report). Some (trace_text r)) (sym answered.report)) audited

-- so it is where `trace` printed it on an empty sink, and `audit` reads these bytes
pub printed_found : {A B O E : Type 0} {names : List (List ℕ)} {begun ended : Scene A B} {before after : Scene O E} {ran status : ℕ} (printed : List ℕ)
    → PrintedIsLegal → RunStatuses Trace names begun ended ran → AuditStatuses before after status → begun.out.held ≡ Some []
    → ended.out.held ≡ Some printed → before.source.left ≡ Some printed → before.report ≡ ended.report → IsRunStatus ran
    → length (trace_text after.report) ≤ longest_trace → NoCollision after.report.config after.report.history.items
    → Finds (length after.report.history.items) before.source after.source
printed_found {A} {B} {O} {E} {names} {begun} {ended} {before} {after} printed law runs judged none held left same is_run short apart =
    let first = runs.ran is_run in
    let text : printed ≡ trace_text ended.report =
    subst (λ (h : Option (List ℕ)). Appends h (Some printed) (trace_text ended.report)) none
    (subst (λ (h : Option (List ℕ)). Appends begun.out.held h (trace_text ended.report)) held first.2.0) in
    found_by law judged (subst IsKept (sym same) first.0.2.kept)
    (left ∙ ap Some text ∙ ap (λ (r : Report). Some (trace_text r)) (sym same)) short apart

not_refused : (posts : ℕ) (fault : TraceFault) → FindsLegal posts (Err fault) → IsOfBytes fault → ⊥
not_refused posts ReadFault found of = of
not_refused posts TooLong found of = found
not_refused posts (NotATrace line) found of = found
not_refused posts Memory found of = of

pub not_3 : {O E : Type 0} {before after : Scene O E} {status : ℕ} (posts : ℕ) → AuditStatuses before after status
    → Finds posts before.source after.source → status ≢ 3
not_3 posts answered finds three =
    let was = answered.refused three in
    not_refused posts was.0 (finds (Err was.0) was.2.0) was.1

pub not_8 : {O E : Type 0} {before after : Scene O E} {status : ℕ} (posts : ℕ) → AuditStatuses before after status
    → Finds posts before.source after.source → status ≢ 8
not_8 posts answered finds eight =
    let was = answered.illegal eight in
    absurd (cc (finds (Ok (Illegal was.0)) was.1))

-- a source that counts no fault had none
pub not_6 : {O E : Type 0} {before after : Scene O E} {status : ℕ} → AuditStatuses before after status → before.source.faults ≡ 0
    → after.source.faults ≡ 0 → status ≢ 6
not_6 {O} {E} {before} {after} answered none still six =
    let rose : Rose 0 0 =
    subst (λ (n : ℕ). Rose n 0) none (subst (λ (n : ℕ). Rose before.source.faults n) still (answered.read_failed six).0.0) in
    absurd (omega (arith, rose))

left_over : (status : ℕ) → (status ≡ 0) ⊎ (status ≡ 8) ⊎ (status ≡ 3) ⊎ (status ≡ 6) ⊎ (status ≡ 7) ⊎ (status ≡ 9) → status ≢ 8 → status ≢ 3
    → status ≢ 6 → (status ≡ 0) ⊎ (status ≡ 7) ⊎ (status ≡ 9)
left_over status (inl zero) no_8 no_3 no_6 = inl zero
left_over status (inr (inl eight)) no_8 no_3 no_6 = absurd (no_8 eight)
left_over status (inr (inr (inl three))) no_8 no_3 no_6 = absurd (no_3 three)
left_over status (inr (inr (inr (inl six)))) no_8 no_3 no_6 = absurd (no_6 six)
left_over status (inr (inr (inr (inr rest)))) no_8 no_3 no_6 = inr rest

-- so there is a verdict, or a put failed or memory was wanting
pub is_one_of : {O E : Type 0} {before after : Scene O E} {status : ℕ} (posts : ℕ) → AuditStatuses before after status
    → Finds posts before.source after.source → before.source.faults ≡ 0 → after.source.faults ≡ 0
    → (status ≡ 0) ⊎ (status ≡ 7) ⊎ (status ≡ 9)
is_one_of {O} {E} {before} {after} {status} posts answered finds none still =
    left_over status answered.no_other (not_8 posts answered finds) (not_3 posts answered finds) (not_6 answered none still)

-- and the line tells how many posts it has
pub tells : {O E : Type 0} {before after : Scene O E} {status : ℕ} (posts : ℕ) → AuditStatuses before after status
    → Finds posts before.source after.source → status ≡ 0 → Appends before.out.held after.out.held (verdict_line (Legal posts))
tells {O} {E} {before} {after} posts answered finds zero =
    let was = answered.legal zero in
    let same : Legal was.0 ≡ Legal posts = finds (Ok (Legal was.0)) was.1 in
    subst (λ (verdict : Verdict). Appends before.out.held after.out.held (verdict_line verdict)) same was.2.0
