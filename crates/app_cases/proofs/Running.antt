-- What the answers of a run say of the bytes that the source held.
use Rattle.std.proofs.Common.{◌≡◌, ℕ, List, Some, Ok, inl, inr, sym, ◌∙◌, subst, arith}
use Rattle.net_script.specs.Scenario.{Scenario, told}
use Rattle.script_reader.specs.Reading.{scenario_of}
use Rattle.hb_rules.specs.Strings.{NoCollision}
use Rattle.quiet_world.specs.Spared.{IsSpared, IsSparedStatus}
use Rattle.hb_app.specs.declared.command.Text.{Text}
use Rattle.hb_app.specs.Scene.{Scene}
use Rattle.hb_app.specs.Statuses.{IsRunStatus, RunStatuses}
use Rattle.hb_app.proofs.Statuses.{read_whole, no_fault}

-- after a run it was the run of the scenario that they say
pub is_run_of : {O E : Type 0} {text : Text} {names : List (List ℕ)} {before after : Scene O E} {status : ℕ} (input : List ℕ) → RunStatuses text names before after status
    → before.source.left ≡ Some input → IsRunStatus status → scenario_of input names ≡ Ok (told after.report.script)
is_run_of {O} {E} {text} {names} {before} {after} input answered left ran =
    let run = (answered.ran ran).0 in
    subst (λ (s : Scenario). scenario_of input names ≡ Ok s) (sym run.2.of.0)
    (read_whole names before.source after.source input run.1.0 run.1.1 left ∙ run.1.2)

-- where they were refused they say none
pub says_none : {O E : Type 0} {text : Text} {names : List (List ℕ)} {before after : Scene O E} {status : ℕ} (input : List ℕ) → RunStatuses text names before after status
    → before.source.left ≡ Some input → status ≡ 3 → (s : Scenario) → scenario_of input names ≡ Ok s → ⊥
says_none {O} {E} {text} {names} {before} input answered left three s says =
    let was = answered.refused three in
    no_fault names before.source.left input s was.0 was.1.first left says

not_four : (status : ℕ) → status ≡ 4 → IsSparedStatus status → ⊥
not_four status four (inl zero) = omega (arith, four, zero)
not_four status four (inr (inl five)) = omega (arith, four, five)
not_four status four (inr (inr nine)) = omega (arith, four, nine)

-- where nothing of correct nodes was lost the status is not 4
pub closes : {O E : Type 0} {text : Text} {names : List (List ℕ)} {before after : Scene O E} {status : ℕ} → RunStatuses text names before after status → status ≡ 4
    → NoCollision after.report.config after.report.history.items → IsSpared after.report → ⊥
closes {O} {E} {text} {names} {before} {after} answered four apart safe =
    let came = answered.ran (inr (inl four)) in
    not_four after.report.status (came.1 ∙ four) (came.0.2.spared apart safe)
