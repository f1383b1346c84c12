-- From what an audit came to, to the statuses of the call.
use Rattle.std.proofs.Common.{inl, inr, ◌⊎◌, ◌≡◌, ◌≢◌, ℕ, ◌+◌, ◌<◌, ◌≤◌, List, length, Some, Result, Ok, Err, ap, arith}
use Rattle.hb_base.specs.Numbers.{Numbers}
use Rattle.hb_base.specs.Outside.{Rose}
use Rattle.hb_wire.specs.declared.post.Post.{Post}
use Rattle.hb_rules.specs.History.{IsLegal}
use Rattle.hb_rules.specs.Strings.{NoCollision}
use Rattle.input_reader.specs.Streams.{TakesAtMost}
use Rattle.history_verdict.specs.declared.verdict.Verdict.{Verdict}
use Rattle.history_verdict.specs.declared.verdict.Verdict.TheVariants.{Legal, Illegal}
use Rattle.trace_reader.specs.declared.fault.TraceFault.{TraceFault}
use Rattle.trace_reader.specs.declared.fault.TraceFault.TheVariants.{ReadFault, TooLong, NotATrace, Memory}
use Rattle.trace_reader.specs.Trace.{longest_trace, IsTrace, IsNoTrace}
use Rattle.trace_audit.specs.Audits.{Audits, IsRightOn}
use Rattle.trace_audit.proofs.Left.{all_left}
use Rattle.verdict_text.specs.Text.{verdict_line, refusal_line}
use Rattle.hb_app.specs.Audited.{IsOfBytes, EndsAudit}
use Rattle.hb_app.specs.Lines.{read_line, write_line, memory_line}
use Rattle.hb_app.specs.Scene.{Scene, NoPutFails}
use Rattle.hb_app.specs.Statuses.{IsNotAudited, AuditStatuses}
use Rattle.hb_app.specs.Streams.{IsUntouched, HasPut, FailsWithin, PutsOrFails, PutsOr7}
use Rattle.hb_app.proofs.Statuses.{same_faults}

-- ---- from the status to its cause

record Causes {O E : Type 0} (before after : Scene O E) (status : ℕ) : Type 0 where
  legal : status ≡ 0 → (posts : ℕ) × Audits before.source after.source (Ok (Legal posts)) × HasPut before.out after.out (verdict_line (Legal posts))
      × IsUntouched before.err after.err
  illegal : status ≡ 8 → (post : ℕ) × Audits before.source after.source (Ok (Illegal post)) × HasPut before.out after.out (verdict_line (Illegal post))
      × IsUntouched before.err after.err
  refused : status ≡ 3 → (fault : TraceFault) × IsOfBytes fault × IsNotAudited before after fault × HasPut before.err after.err (refusal_line fault)
  read_failed : status ≡ 6 → IsNotAudited before after ReadFault × HasPut before.err after.err read_line
  write_failed : status ≡ 7
      → ((verdict : Verdict) × Audits before.source after.source (Ok verdict) × FailsWithin before.out after.out (verdict_line verdict)
      × PutsOrFails before.err after.err write_line)
      ⊎ ((fault : TraceFault) × IsOfBytes fault × IsNotAudited before after fault × FailsWithin before.err after.err (refusal_line fault))
      ⊎ (IsNotAudited before after ReadFault × FailsWithin before.err after.err read_line)
  memory : status ≡ 9 → IsNotAudited before after Memory × PutsOrFails before.err after.err memory_line
  no_other : (status ≡ 0) ⊎ (status ≡ 8) ⊎ (status ≡ 3) ⊎ (status ≡ 6) ⊎ (status ≡ 7) ⊎ (status ≡ 9)
  put_failed : after.out.faults ≢ before.out.faults → status ≡ 7
  tell_failed : after.err.faults ≢ before.err.faults → (status ≡ 7) ⊎ ((status ≡ 9) × FailsWithin before.err after.err memory_line)

-- bytes were refused
refused_bytes : {O E : Type 0} (before after : Scene O E) (fault : TraceFault) (status : ℕ) → IsOfBytes fault → IsNotAudited before after fault
    → PutsOr7 before.err after.err (refusal_line fault) 3 status → Causes before after status
refused_bytes before after fault status bytes came (inl (three, put)) = record {
  legal = λ zero. absurd (omega (arith, three, zero));
  illegal = λ eight. absurd (omega (arith, three, eight));
  refused = λ _. (fault, bytes, came, put);
  read_failed = λ six. absurd (omega (arith, three, six));
  write_failed = λ seven. absurd (omega (arith, three, seven));
  memory = λ nine. absurd (omega (arith, three, nine));
  no_other = inr (inr (inl three));
  put_failed = λ rose. absurd (rose (same_faults before.out after.out came.1));
  tell_failed = λ rose. absurd (rose put.1);
}
refused_bytes before after fault status bytes came (inr (seven, failed)) = record {
  legal = λ zero. absurd (omega (arith, seven, zero));
  illegal = λ eight. absurd (omega (arith, seven, eight));
  refused = λ three. absurd (omega (arith, seven, three));
  read_failed = λ six. absurd (omega (arith, seven, six));
  write_failed = λ _. inr (inl (fault, bytes, came, failed));
  memory = λ nine. absurd (omega (arith, seven, nine));
  no_other = inr (inr (inr (inr (inl seven))));
  put_failed = λ _. seven;
  tell_failed = λ _. inl seven;
}

causes_of : {O E : Type 0} (before after : Scene O E) (answer : Result Verdict TraceFault) (status : ℕ) → Audits before.source after.source answer
    → EndsAudit answer before.out after.out before.err after.err status → Causes before after status
causes_of before after (Ok (Legal posts)) status audited (inl (zero, put, quiet)) = record {
  legal = λ _. (posts, audited, put, quiet);
  illegal = λ eight. absurd (omega (arith, zero, eight));
  refused = λ three. absurd (omega (arith, zero, three));
  read_failed = λ six. absurd (omega (arith, zero, six));
  write_failed = λ seven. absurd (omega (arith, zero, seven));
  memory = λ nine. absurd (omega (arith, zero, nine));
  no_other = inl zero;
  put_failed = λ rose. absurd (rose put.1);
  tell_failed = λ rose. absurd (rose (same_faults before.err after.err quiet));
}
causes_of before after (Ok (Illegal post)) status audited (inl (eight, put, quiet)) = record {
  legal = λ zero. absurd (omega (arith, zero, eight));
  illegal = λ _. (post, audited, put, quiet);
  refused = λ three. absurd (omega (arith, eight, three));
  read_failed = λ six. absurd (omega (arith, eight, six));
  write_failed = λ seven. absurd (omega (arith, eight, seven));
  memory = λ nine. absurd (omega (arith, eight, nine));
  no_other = inr (inl eight);
  put_failed = λ rose. absurd (rose put.1);
  tell_failed = λ rose. absurd (rose (same_faults before.err after.err quiet));
}
causes_of before after (Ok verdict) status audited (inr (seven, failed, told)) = record {
  legal = λ zero. absurd (omega (arith, zero, seven));
  illegal = λ eight. absurd (omega (arith, eight, seven));
  refused = λ three. absurd (omega (arith, seven, three));
  read_failed = λ six. absurd (omega (arith, seven, six));
  write_failed = λ _. inl (verdict, audited, failed, told);
  memory = λ nine. absurd (omega (arith, seven, nine));
  no_other = inr (inr (inr (inr (inl seven))));
  put_failed = λ _. seven;
  tell_failed = λ _. inl seven;
}
causes_of before after (Err ReadFault) status audited (unused, inl (six, put)) = record {
  legal = λ zero. absurd (omega (arith, zero, six));
  illegal = λ eight. absurd (omega (arith, eight, six));
  refused = λ three. absurd (omega (arith, six, three));
  read_failed = λ _. ((audited, unused), put);
  write_failed = λ seven. absurd (omega (arith, six, seven));
  memory = λ nine. absurd (omega (arith, six, nine));
  no_other = inr (inr (inr (inl six)));
  put_failed = λ rose. absurd (rose (same_faults before.out after.out unused));
  tell_failed = λ rose. absurd (rose put.1);
}
causes_of before after (Err ReadFault) status audited (unused, inr (seven, failed)) = record {
  legal = λ zero. absurd (omega (arith, zero, seven));
  illegal = λ eight. absurd (omega (arith, eight, seven));
  refused = λ three. absurd (omega (arith, seven, three));
  read_failed = λ six. absurd (omega (arith, seven, six));
  write_failed = λ _. inr (inr ((audited, unused), failed));
  memory = λ nine. absurd (omega (arith, seven, nine));
  no_other = inr (inr (inr (inr (inl seven))));
  put_failed = λ _. seven;
  tell_failed = λ _. inl seven;
}
causes_of before after (Err TooLong) status audited (unused, told) = refused_bytes before after TooLong status tt (audited, unused) told
causes_of before after (Err (NotATrace line)) status audited (unused, told) = refused_bytes before after (NotATrace line) status tt (audited, unused) told
causes_of before after (Err Memory) status audited (unused, nine, told) = record {
  legal = λ zero. absurd (omega (arith, zero, nine));
  illegal = λ eight. absurd (omega (arith, eight, nine));
  refused = λ three. absurd (omega (arith, nine, three));
  read_failed = λ six. absurd (omega (arith, six, nine));
  write_failed = λ seven. absurd (omega (arith, seven, nine));
  memory = λ _. ((audited, unused), told);
  no_other = inr (inr (inr (inr (inr nine))));
  put_failed = λ rose. absurd (rose (same_faults before.out after.out unused));
  tell_failed = λ rose. elim told [ inl put ↦ absurd (rose put.1) | inr failed ↦ inr (nine, failed) ];
}

-- ---- from the input to the status

-- what was read as a text of a history is one, and is not too long
is_text : {O E : Type 0} (before after : Scene O E) (input : List ℕ) (verdict : Verdict) → Audits before.source after.source (Ok verdict)
    → before.source.left ≡ Some input → (longest_trace < length input) ⊎ IsNoTrace input → ⊥
is_text before after input verdict audited left wrong =
    let same : input ≡ audited.0 = all_left before.source after.source input audited.0 audited.2 left in
    elim wrong [
      | inl long ↦ omega (arith, long, audited.1, ap (λ (xs : List ℕ). length xs) same)
      | inr none ↦ none audited.3.config audited.3.posts (rw same audited.3.text)
    ]

pub audit_statuses : {O E : Type 0} (before after : Scene O E) (answer : Result Verdict TraceFault) (status : ℕ) → after.report ≡ before.report
    → Audits before.source after.source answer
    → ((input : List ℕ) (c : Numbers) (posts : List Post) → before.source.left ≡ Some input → length input ≤ longest_trace → IsTrace input c posts
    → IsRightOn c posts answer)
    → TakesAtMost (longest_trace + 1) before.source after.source
    → EndsAudit answer before.out after.out before.err after.err status → AuditStatuses before after status
audit_statuses before after answer status report audited right taken told = record {
  legal = causes.legal;
  illegal = causes.illegal;
  refused = causes.refused;
  read_failed = causes.read_failed;
  write_failed = causes.write_failed;
  memory = causes.memory;
  no_other = causes.no_other;
  put_failed = causes.put_failed;
  tell_failed = causes.tell_failed;
  report = report;
  taken = taken;
  take_failed = take_failed answer audited told;
  faulty = faulty answer audited told;
  complete = λ input c posts left short text. complete answer c posts audited told (right input c posts left short text);
}
  where
    causes : Causes before after status
    causes = causes_of before after answer status audited told

    take_failed : (answer : Result Verdict TraceFault) → Audits before.source after.source answer
        → EndsAudit answer before.out after.out before.err after.err status
        → after.source.faults ≢ before.source.faults → (status ≡ 6) ⊎ ((status ≡ 7) × FailsWithin before.err after.err read_line)
    take_failed (Ok verdict) audited told rose = absurd (rose audited.2.2)
    take_failed (Err ReadFault) audited told rose = elim told.1 [ inl put ↦ inl put.0 | inr failed ↦ inr failed ]
    take_failed (Err TooLong) audited told rose = absurd (rose audited.3)
    take_failed (Err (NotATrace line)) audited told rose = absurd (rose audited.2.2)
    take_failed (Err Memory) audited told rose = absurd (rose audited)

    faulty : (answer : Result Verdict TraceFault) → Audits before.source after.source answer
        → EndsAudit answer before.out after.out before.err after.err status
        → (input : List ℕ) → before.source.left ≡ Some input → (longest_trace < length input) ⊎ IsNoTrace input
        → (status ≡ 3) ⊎ ((status ≡ 6) × Rose before.source.faults after.source.faults)
        ⊎ ((status ≡ 7) × Rose before.err.faults after.err.faults) ⊎ (status ≡ 9)
    faulty (Ok verdict) audited told input left wrong = absurd (is_text before after input verdict audited left wrong)
    faulty (Err ReadFault) audited told input left wrong = elim told.1 [ inl put ↦ inr (inl (put.0, audited)) | inr failed ↦ inr (inr (inl (failed.0, failed.1.1))) ]
    faulty (Err TooLong) audited told input left wrong = elim told.1 [ inl put ↦ inl put.0 | inr failed ↦ inr (inr (inl (failed.0, failed.1.1))) ]
    faulty (Err (NotATrace line)) audited told input left wrong = elim told.1 [ inl put ↦ inl put.0 | inr failed ↦ inr (inr (inl (failed.0, failed.1.1))) ]
    faulty (Err Memory) audited told input left wrong = inr (inr (inr told.1))

    complete : (answer : Result Verdict TraceFault) (c : Numbers) (posts : List Post) → Audits before.source after.source answer
        → EndsAudit answer before.out after.out before.err after.err status → IsRightOn c posts answer
        → (Rose before.source.faults after.source.faults → ⊥) → NoPutFails before after
        → ((status ≡ 0) × IsLegal c posts) ⊎ ((status ≡ 8) × (NoCollision c posts → IsLegal c posts → ⊥)) ⊎ (status ≡ 9)
    complete (Ok (Legal count)) c posts audited told right taking putting =
        elim told [ inl put ↦ inl (put.0, right.0.0) | inr failed ↦ absurd (putting.out failed.1.1) ]
    complete (Ok (Illegal post)) c posts audited told right taking putting =
        elim told [ inl put ↦ inr (inl (put.0, λ apart legal. cc (right.1 apart legal))) | inr failed ↦ absurd (putting.out failed.1.1) ]
    complete (Err ReadFault) c posts audited told right taking putting = absurd (taking audited)
    complete (Err TooLong) c posts audited told right taking putting = absurd right
    complete (Err (NotATrace line)) c posts audited told right taking putting = absurd right
    complete (Err Memory) c posts audited told right taking putting = inr (inr told.1)
