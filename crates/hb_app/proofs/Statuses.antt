-- From how the parts of a call end, to its statuses.
use Rattle.std.proofs.Common.{inl, inr, ◌⊎◌, ◌≡◌, ◌≢◌, ℕ, Bool, true, false, not, ◌&&◌, List, Option, None, Some, Ok, Err, if◌then◌else◌, refl, sym, ap, subst, ◌∙◌, arith}
use Rattle.std.specs.List.{list_any, range_with_len}
use Rattle.std.proofs.lemmas.Bool.{cases_eq}
use Rattle.hb_base.specs.NodeSet.{is_in}
use Rattle.script_fault.specs.declared.fault.ScriptFault.{ScriptFault}
use Rattle.net_script.specs.Scenario.{Scenario, told}
use Rattle.script_reader.specs.Reading.{scenario_of}
use Rattle.scenario_gen.specs.Generated.{generated}
use Rattle.hb_rules.specs.declared.report.Report.{Report}
use Rattle.hb_rules.specs.Report.{is_memory_fate, has_closed_all, has_spent_lane, status_of}
use Rattle.input_reader.specs.Streams.{SourceView, ReadsAll, TakesAtMost}
use Rattle.trace_audit.proofs.Left.{all_left}
use Rattle.hb_app.specs.declared.command.Text.{Text}
use Rattle.hb_app.specs.declared.reading.Unread.{Unread}
use Rattle.hb_app.specs.declared.reading.Unread.TheVariants.{Refused, ReadFailed, Memory}
use Rattle.hb_app.specs.declared.task.Wanted.TheVariants.{Word, Soaked}
use Rattle.hb_app.specs.Ends.{ComesUnread, EndsUnread, EndsRun}
use Rattle.hb_app.specs.Headline.{Headline}
use Rattle.hb_app.specs.Input.{most_taken, HasFault, Says, Refuses}
use Rattle.hb_app.specs.Scene.{Scene, IsNotRun}
use Rattle.hb_app.specs.Statuses.{IsRunStatus, RunStatuses, SoakStatuses}
use Rattle.hb_app.specs.Streams.{SinkView, IsUntouched}

-- ---- the status of a run

-- the statuses that a run may have
abbrev IsEndStatus : ℕ → Type 0
IsEndStatus status = IsRunStatus status ⊎ (status ≡ 9)

status_of_run : (report : Report) → IsEndStatus (status_of report)
status_of_run report =
    by (list_any (λ end. not (is_in report.config.liars end.node) && is_memory_fate end.fate) report.ends.items) (has_closed_all report)
    (list_any (has_spent_lane report) (range_with_len 0 report.config.n))
  where
    by : (memory closed spent : Bool) → IsEndStatus (if memory then 9 else (if closed then 0 else (if spent then 5 else 4)))
    by true closed spent = inr refl
    by false true spent = inl (inl refl)
    by false false true = inl (inr (inr refl))
    by false false false = inl (inr (inl refl))

ended_run : (s : Scenario) (report : Report) (status : ℕ) → Headline s report → status ≡ report.status → IsEndStatus status
ended_run s report status run is = subst IsEndStatus (sym (is ∙ run.of.2)) (status_of_run report)

not_run : (status k : ℕ) → status ≡ k → k ≢ 0 → k ≢ 4 → k ≢ 5 → IsRunStatus status → ⊥
not_run status k is zero four five (inl e) = zero (sym is ∙ e)
not_run status k is zero four five (inr (inl e)) = four (sym is ∙ e)
not_run status k is zero four five (inr (inr e)) = five (sym is ∙ e)

not_end : (status k : ℕ) → status ≡ k → k ≢ 0 → k ≢ 4 → k ≢ 5 → k ≢ 9 → IsEndStatus status → ⊥
not_end status k is zero four five nine (inl ok) = not_run status k is zero four five ok
not_end status k is zero four five nine (inr e) = nine (sym is ∙ e)

-- a sink that is as it was has as many faults
pub same_faults : {S : Type 0} (old new : SinkView S) → IsUntouched old new → new.faults ≡ old.faults
same_faults {S} old new same = ap (λ (sink : SinkView S). sink.faults) same

-- ---- the scenario on the input

-- what a source has left is what was read, where all was read
pub read_whole : (names : List (List ℕ)) (old new : SourceView) (input read : List ℕ) → ReadsAll old new read → old.left ≡ Some input
    → scenario_of input names ≡ scenario_of read names
read_whole names old new input read all is = ap (λ (bytes : List ℕ). scenario_of bytes names) (all_left old new input read all is)

-- input with a fault says no run, and the other way round
no_run : (names : List (List ℕ)) (old new : SourceView) (input : List ℕ) (s : Scenario) (fault : ScriptFault) → Says names old new (Ok s)
    → old.left ≡ Some input → scenario_of input names ≡ Err fault → ⊥
no_run names old new input s fault run is says = absurd (cc (sym run.2 ∙ sym (read_whole names old new input run.0 run.1 is) ∙ says))

pub no_fault : (names : List (List ℕ)) (left : Option (List ℕ)) (input : List ℕ) (s : Scenario) (fault : ScriptFault) → HasFault names left fault → left ≡ Some input
    → scenario_of input names ≡ Ok s → ⊥
no_fault names None input s fault has is says = absurd (cc (is))
no_fault names (Some xs) input s fault has is says = absurd (cc (sym has ∙ ap (λ (bytes : List ℕ). scenario_of bytes names) (cc (is)) ∙ says))

-- input that was read to find its fault was read without one
refuses_quietly : (names : List (List ℕ)) (old new : SourceView) (fault : ScriptFault) → Refuses names old new fault → new.faults ≡ old.faults
refuses_quietly names old new fault refuses = elim refuses.reads [ inl says ↦ says.1.2 | inr most ↦ most.0.3 ]

-- there is no scenario
pub unread_statuses : {O E : Type 0} (text : Text) (names : List (List ℕ)) (before after : Scene O E) (unread : Unread) (status : ℕ)
    → ComesUnread names before.source after.source unread → IsNotRun before after → TakesAtMost most_taken before.source after.source
    → EndsUnread unread before.err after.err status → RunStatuses text names before after status
unread_statuses text names before after (Refused fault) status came idle taken (inl (three, put)) = record {
  ran = λ ok. absurd (not_run status 3 three (omega arith) (omega arith) (omega arith) ok);
  refused = λ _. (fault, came, idle, put);
  read_failed = λ six. absurd (omega (arith, three, six));
  write_failed = λ seven. absurd (omega (arith, three, seven));
  memory = λ nine. absurd (omega (arith, three, nine));
  no_other = inr (inl three);
  put_failed = λ rose. absurd (rose (same_faults before.out after.out idle.0));
  tell_failed = λ rose. absurd (rose put.1);
  taken = taken;
  take_failed = λ rose. absurd (rose (refuses_quietly names before.source after.source fault came));
  faulty = λ input found left says. inl three;
  complete = λ input s left says taking putting. absurd (no_fault names before.source.left input s fault came.first left says);
}
unread_statuses text names before after (Refused fault) status came idle taken (inr (seven, failed)) = record {
  ran = λ ok. absurd (not_run status 7 seven (omega arith) (omega arith) (omega arith) ok);
  refused = λ three. absurd (omega (arith, seven, three));
  read_failed = λ six. absurd (omega (arith, seven, six));
  write_failed = λ _. inr (inl (fault, came, idle, failed));
  memory = λ nine. absurd (omega (arith, seven, nine));
  no_other = inr (inr (inr (inl seven)));
  put_failed = λ _. seven;
  tell_failed = λ _. inl seven;
  taken = taken;
  take_failed = λ rose. absurd (rose (refuses_quietly names before.source after.source fault came));
  faulty = λ input found left says. inr (inr (inl (seven, failed.1)));
  complete = λ input s left says taking putting. absurd (no_fault names before.source.left input s fault came.first left says);
}
unread_statuses text names before after ReadFailed status came idle taken (inl (six, put)) = record {
  ran = λ ok. absurd (not_run status 6 six (omega arith) (omega arith) (omega arith) ok);
  refused = λ three. absurd (omega (arith, six, three));
  read_failed = λ _. (came, idle, put);
  write_failed = λ seven. absurd (omega (arith, six, seven));
  memory = λ nine. absurd (omega (arith, six, nine));
  no_other = inr (inr (inl six));
  put_failed = λ rose. absurd (rose (same_faults before.out after.out idle.0));
  tell_failed = λ rose. absurd (rose put.1);
  taken = taken;
  take_failed = λ _. inl six;
  faulty = λ input found left says. inr (inl (six, came));
  complete = λ input s left says taking putting. absurd (taking came);
}
unread_statuses text names before after ReadFailed status came idle taken (inr (seven, failed)) = record {
  ran = λ ok. absurd (not_run status 7 seven (omega arith) (omega arith) (omega arith) ok);
  refused = λ three. absurd (omega (arith, seven, three));
  read_failed = λ six. absurd (omega (arith, seven, six));
  write_failed = λ _. inr (inr (came, idle, failed));
  memory = λ nine. absurd (omega (arith, seven, nine));
  no_other = inr (inr (inr (inl seven)));
  put_failed = λ _. seven;
  tell_failed = λ _. inl seven;
  taken = taken;
  take_failed = λ _. inr (seven, failed);
  faulty = λ input found left says. inr (inr (inl (seven, failed.1)));
  complete = λ input s left says taking putting. absurd (taking came);
}
unread_statuses text names before after Memory status came idle taken (nine, told) = record {
  ran = λ ok. absurd (not_run status 9 nine (omega arith) (omega arith) (omega arith) ok);
  refused = λ three. absurd (omega (arith, nine, three));
  read_failed = λ six. absurd (omega (arith, nine, six));
  write_failed = λ seven. absurd (omega (arith, nine, seven));
  memory = λ _. (told, inr (inr (came, idle)));
  no_other = inr (inr (inr (inr nine)));
  put_failed = λ rose. absurd (rose (same_faults before.out after.out idle.0));
  tell_failed = λ rose. elim told [ inl put ↦ absurd (rose put.1) | inr failed ↦ inr (nine, failed) ];
  taken = taken;
  take_failed = λ rose. absurd (rose came);
  faulty = λ input found left says. inr (inr (inr nine));
  complete = λ input s left says taking putting. inr nine;
}

-- ---- a run

-- the scenario on the input was run, or there was no memory for that
pub run_statuses : {O E : Type 0} (text : Text) (names : List (List ℕ)) (s : Scenario) (before after : Scene O E) (status : ℕ)
    → Says names before.source after.source (Ok s) → TakesAtMost most_taken before.source after.source
    → EndsRun (Word text) s before.out after.out before.err after.err before.report after.report status
    → RunStatuses text names before after status
run_statuses text names s before after status says taken (inl (run, inl (put, told))) =
    let one : IsEndStatus status = ended_run s after.report status run told.status_is in
    let ok_is : IsRunStatus status → after.report.status ≢ 9 =
    λ ok nine. not_run status 9 (told.status_is ∙ nine) (omega arith) (omega arith) (omega arith) ok in
    record {
      ran = λ ok. ((s, says, run), sym told.status_is, put, told.untold (ok_is ok));
      refused = λ three. absurd (not_end status 3 three (omega arith) (omega arith) (omega arith) (omega arith) one);
      read_failed = λ six. absurd (not_end status 6 six (omega arith) (omega arith) (omega arith) (omega arith) one);
      write_failed = λ seven. absurd (not_end status 7 seven (omega arith) (omega arith) (omega arith) (omega arith) one);
      memory = λ nine. (told.line (sym told.status_is ∙ nine), inl ((s, says, run), sym told.status_is ∙ nine, put));
      no_other = elim one [ inl ok ↦ inl ok | inr nine ↦ inr (inr (inr (inr nine))) ];
      put_failed = λ rose. absurd (rose put.1);
      tell_failed = λ rose. elim (cases_eq after.report.status 9) [
        | inl nine ↦ elim (told.line nine) [ inl line ↦ absurd (rose line.1) | inr failed ↦ inr (told.status_is ∙ nine, failed) ]
        | inr other ↦ absurd (rose (same_faults before.err after.err (told.untold other)))
      ];
      taken = taken;
      take_failed = λ rose. absurd (rose says.1.2);
      faulty = λ input fault left wrong. absurd (no_run names before.source after.source input s fault says left wrong);
      complete = λ input t left right taking putting. one;
    }
run_statuses text names s before after status says taken (inl (run, inr (inl (failed, seven, told)))) = record {
  ran = λ ok. absurd (not_run status 7 seven (omega arith) (omega arith) (omega arith) ok);
  refused = λ three. absurd (omega (arith, seven, three));
  read_failed = λ six. absurd (omega (arith, seven, six));
  write_failed = λ _. inl ((s, says, run), failed, told);
  memory = λ nine. absurd (omega (arith, seven, nine));
  no_other = inr (inr (inr (inl seven)));
  put_failed = λ _. seven;
  tell_failed = λ _. inl seven;
  taken = taken;
  take_failed = λ rose. absurd (rose says.1.2);
  faulty = λ input fault left wrong. absurd (no_run names before.source after.source input s fault says left wrong);
  complete = λ input t left right taking putting. absurd (putting.out failed.1);
}
run_statuses text names s before after status says taken (inl (run, inr (inr (wants, unused, nine, told)))) = record {
  ran = λ ok. absurd (not_run status 9 nine (omega arith) (omega arith) (omega arith) ok);
  refused = λ three. absurd (omega (arith, nine, three));
  read_failed = λ six. absurd (omega (arith, nine, six));
  write_failed = λ seven. absurd (omega (arith, nine, seven));
  memory = λ _. (told, inr (inl ((s, says, run), wants, unused)));
  no_other = inr (inr (inr (inr nine)));
  put_failed = λ rose. absurd (rose unused.1);
  tell_failed = λ rose. elim told [ inl put ↦ absurd (rose put.1) | inr failed ↦ inr (nine, failed) ];
  taken = taken;
  take_failed = λ rose. absurd (rose says.1.2);
  faulty = λ input fault left wrong. inr (inr (inr nine));
  complete = λ input t left right taking putting. inr nine;
}
run_statuses text names s before after status says taken (inr (untouched, report, nine, told)) =
    unread_statuses text names before after Memory status says.1.2 (untouched, report) taken (nine, told)

-- the scenario of a number was run, or there was no memory for that
pub soak_statuses : {O E : Type 0} (number : ℕ) (before after : Scene O E) (status : ℕ)
    → EndsRun (Soaked number) (generated number) before.out after.out before.err after.err before.report after.report status
    → SoakStatuses number before after status
soak_statuses number before after status (inl (run, inl (put, told))) =
    let one : IsEndStatus status = ended_run (generated number) after.report status run told.status_is in
    let ok_is : IsRunStatus status → after.report.status ≢ 9 =
    λ ok nine. not_run status 9 (told.status_is ∙ nine) (omega arith) (omega arith) (omega arith) ok in
    record {
      ran = λ ok. (run, sym told.status_is, put, told.untold (ok_is ok));
      write_failed = λ seven. absurd (not_end status 7 seven (omega arith) (omega arith) (omega arith) (omega arith) one);
      memory = λ nine. (told.line (sym told.status_is ∙ nine), inl (run, sym told.status_is ∙ nine, put));
      no_other = elim one [ inl ok ↦ inl ok | inr nine ↦ inr (inr nine) ];
      put_failed = λ rose. absurd (rose put.1);
      tell_failed = λ rose. elim (cases_eq after.report.status 9) [
        | inl nine ↦ elim (told.line nine) [ inl line ↦ absurd (rose line.1) | inr failed ↦ inr (told.status_is ∙ nine, failed) ]
        | inr other ↦ absurd (rose (same_faults before.err after.err (told.untold other)))
      ];
      complete = λ putting. one;
    }
soak_statuses number before after status (inl (run, inr (inl (failed, seven, told)))) = record {
  ran = λ ok. absurd (not_run status 7 seven (omega arith) (omega arith) (omega arith) ok);
  write_failed = λ _. (run, failed, told);
  memory = λ nine. absurd (omega (arith, seven, nine));
  no_other = inr (inl seven);
  put_failed = λ _. seven;
  tell_failed = λ _. inl seven;
  complete = λ putting. absurd (putting.out failed.1);
}
soak_statuses number before after status (inl (run, inr (inr (wants, unused, nine, told)))) = absurd wants
soak_statuses number before after status (inr (untouched, report, nine, told)) = record {
  ran = λ ok. absurd (not_run status 9 nine (omega arith) (omega arith) (omega arith) ok);
  write_failed = λ seven. absurd (omega (arith, nine, seven));
  memory = λ _. (told, inr (untouched, report));
  no_other = inr (inr nine);
  put_failed = λ rose. absurd (rose (same_faults before.out after.out untouched));
  tell_failed = λ rose. elim told [ inl put ↦ absurd (rose put.1) | inr failed ↦ inr (nine, failed) ];
  complete = λ putting. inr nine;
}
