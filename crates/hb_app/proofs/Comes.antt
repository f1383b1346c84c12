-- How far a call comes without threads, and what it comes to with them.
use Rattle.std.proofs.Common.{◌≡◌, ℕ, ◌<◌, List, Ok, refl, sym, ap, subst, ◌∙◌}
use Rattle.net_script.specs.Scenario.{Scenario, told}
use Rattle.net_script.specs.Sound.{IsScenario}
use Rattle.scenario_gen.specs.Generated.{generated}
use Rattle.hb_rules.specs.declared.report.Report.{Report}
use Rattle.input_reader.specs.Streams.{SourceView, TakesAtMost}
use Rattle.hb_app.specs.declared.command.Text.{Text}
use Rattle.hb_app.specs.declared.task.Progress.{Progress}
use Rattle.hb_app.specs.declared.task.Progress.TheVariants.{Ended, Workers}
use Rattle.hb_app.specs.declared.task.Task.{Task}
use Rattle.hb_app.specs.declared.task.Wanted.{Wanted}
use Rattle.hb_app.specs.declared.task.Wanted.TheVariants.{Word, Soaked}
use Rattle.hb_app.specs.Commands.{AsksRun, AsksSoak}
use Rattle.hb_app.specs.Ends.{Begins, Comes, EndsRun, IsLeft, IsLeftOfInput}
use Rattle.hb_app.specs.Input.{most_taken, Says}
use Rattle.hb_app.specs.Scene.{Scene}
use Rattle.hb_app.specs.Statuses.{RunStatuses, SoakStatuses}
use Rattle.hb_app.specs.Streams.{SinkView}
use Rattle.hb_app.proofs.Commands.{one_text, one_number}
use Rattle.hb_app.proofs.Statuses.{run_statuses, soak_statuses}

-- ---- what is left

left_is : {X : Type 0} {F : X → Type 0} {O E : Type 0} (before after : Scene O E) (task left : Task X F) (wanted : Wanted) (s : Scenario) → task.wanted ≡ wanted → told task.script ≡ s
    → Begins task before.out after.out before.err after.err before.report after.report (Workers left) → IsLeft wanted s before after left
left_is {X} {F} before after task left wanted s wanted_is scenario begun = record {
  wanted_is = ap (λ (t : Task X F). t.wanted) begun.0 ∙ wanted_is;
  scenario = ap (λ (t : Task X F). told t.script) begun.0 ∙ scenario;
  workers = subst (λ (t : Task X F). 0 < t.script.workers) (sym begun.0) begun.1;
  not_run = (begun.2, begun.4);
  untold = begun.3;
}

-- a run ends as its parts say that are the same
same_end : {O E : Type 0} (wanted wanted2 : Wanted) (s s2 : Scenario) (out out2 out_after : SinkView O) (err err2 err_after : SinkView E)
    (report report2 report_after : Report) (status : ℕ) → wanted2 ≡ wanted → s2 ≡ s → out2 ≡ out → err2 ≡ err → report2 ≡ report
    → EndsRun wanted2 s2 out2 out_after err2 err_after report2 report_after status → EndsRun wanted s out out_after err err_after report report_after status
same_end wanted wanted2 s s2 out out2 out_after err err2 err_after report report2 report_after status e1 e2 e3 e4 e5 ends =
    rw (sym e1, sym e2, sym e3, sym e4, sym e5) ends

-- ---- without threads

pub run_comes : {X : Type 0} {F : X → Type 0} {O E : Type 0} (words : List (List ℕ)) (found text : Text) (names : List (List ℕ)) (before after : Scene O E) (task : Task X F) (result : Progress X F)
    → AsksRun words found → AsksRun words text → task.wanted ≡ Word found → Says names before.source after.source (Ok (told task.script))
    → TakesAtMost most_taken before.source after.source
    → Begins task before.out after.out before.err after.err before.report after.report result
    → Comes result (RunStatuses text names before after) (IsLeftOfInput text names before after)
run_comes {X} {F} words found text names before after task (Ended status) is asks wanted says taken begun =
    let same : task.wanted ≡ Word text = wanted ∙ ap (λ (t : Text). Word t) (one_text words found text is asks) in
    run_statuses text names (told task.script) before after status says taken
    (subst (λ (w : Wanted). EndsRun w (told task.script) before.out after.out before.err after.err before.report after.report status) same begun)
run_comes {X} {F} words found text names before after task (Workers left) is asks wanted says taken begun =
    let same : task.wanted ≡ Word text = wanted ∙ ap (λ (t : Text). Word t) (one_text words found text is asks) in
    (told task.script, says, taken, left_is before after task left (Word text) (told task.script) same refl begun)

pub soak_comes : {X : Type 0} {F : X → Type 0} {O E : Type 0} (words : List (List ℕ)) (found number : ℕ) (before after : Scene O E) (task : Task X F) (result : Progress X F)
    → AsksSoak words found → AsksSoak words number → task.wanted ≡ Soaked found → told task.script ≡ generated found
    → Begins task before.out after.out before.err after.err before.report after.report result
    → Comes result (SoakStatuses number before after) (IsLeft (Soaked number) (generated number) before after)
soak_comes {X} {F} words found number before after task (Ended status) is asks wanted scenario begun =
    let one : found ≡ number = one_number words found number is asks in
    soak_statuses number before after status
    (same_end (Soaked number) task.wanted (generated number) (told task.script) before.out before.out after.out before.err before.err after.err
    before.report before.report after.report status (wanted ∙ ap (λ (n : ℕ). Soaked n) one) (scenario ∙ ap generated one) refl refl refl begun)
soak_comes {X} {F} words found number before after task (Workers left) is asks wanted scenario begun =
    let one : found ≡ number = one_number words found number is asks in
    left_is before after task left (Soaked number) (generated number) (wanted ∙ ap (λ (n : ℕ). Soaked n) one) (scenario ∙ ap generated one) begun

pub sound_comes : {X : Type 0} {F : X → Type 0} {O E : Type 0} (task : Task X F) (out out_after : SinkView O) (err err_after : SinkView E) (report report_after : Report) (result : Progress X F)
    → IsScenario (told task.script) → Begins task out out_after err err_after report report_after result
    → Comes result (λ (status : ℕ). Unit {0}) (λ (left : Task X F). IsScenario (told left.script))
sound_comes {X} {F} task out out_after err err_after report report_after (Ended status) sound begun = tt
sound_comes {X} {F} task out out_after err err_after report report_after (Workers left) sound begun =
    subst (λ (t : Task X F). IsScenario (told t.script)) (sym begun.0) sound

-- ---- with threads

pub run_left : {X : Type 0} {F : X → Type 0} {O E : Type 0} (text : Text) (names : List (List ℕ)) (before between after : Scene O E) (task : Task X F) (status : ℕ)
    → after.source ≡ between.source → IsLeftOfInput text names before between task
    → EndsRun task.wanted (told task.script) between.out after.out between.err after.err between.report after.report status
    → RunStatuses text names before after status
run_left {X} {F} text names before between after task status same left ends =
    let rest = left.3 in
    run_statuses text names left.0 before after status
    (subst (λ (source : SourceView). Says names before.source source (Ok left.0)) (sym same) left.1)
    (subst (λ (source : SourceView). TakesAtMost most_taken before.source source) (sym same) left.2)
    (same_end (Word text) task.wanted left.0 (told task.script) before.out between.out after.out before.err between.err after.err
    before.report between.report after.report status rest.wanted_is rest.scenario rest.not_run.0 rest.untold rest.not_run.1 ends)

pub soak_left : {X : Type 0} {F : X → Type 0} {O E : Type 0} (number : ℕ) (before between after : Scene O E) (task : Task X F) (status : ℕ)
    → IsLeft (Soaked number) (generated number) before between task
    → EndsRun task.wanted (told task.script) between.out after.out between.err after.err between.report after.report status
    → SoakStatuses number before after status
soak_left {X} {F} number before between after task status rest ends =
    soak_statuses number before after status
    (same_end (Soaked number) task.wanted (generated number) (told task.script) before.out between.out after.out before.err between.err after.err
    before.report between.report after.report status rest.wanted_is rest.scenario rest.not_run.0 rest.untold rest.not_run.1 ends)
