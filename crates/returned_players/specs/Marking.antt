-- Actors that missed a post.
use Rattle.std.specs.Prelude.{◌≡◌, ℕ, Bool, true, false, ◌&&◌, List, if◌then◌else◌}
use Rattle.hb_rules.specs.declared.report.Fate.{Fate}
use Rattle.hb_rules.specs.declared.report.Fate.TheVariants.{Memory}
use Rattle.hb_rules.specs.Report.{is_running_fate}
use Rattle.actor_cell.specs.Marks.{is_marked}
use Rattle.step_driver.specs.declared.player.Player.{Player}

-- an actor that works and is marked ends for want of memory, and no other is changed
abbrev pub ended_by : {A S : Type 0} → (S → ℕ) → (S → ℕ) → (A → S) → List (List Bool) → Player A → Player A
ended_by node actor seat marks p =
    record p { fate = if is_running_fate p.fate && is_marked marks (node (seat p.actor)) (actor (seat p.actor)) then Memory else p.fate }

-- actor x of node i has ended with this fate, if it is marked
abbrev pub EndsIfMarked : List (List Bool) → ℕ → ℕ → Fate → Type 0
EndsIfMarked marks i x fate = is_marked marks i x ≡ true → is_running_fate fate ≡ false
