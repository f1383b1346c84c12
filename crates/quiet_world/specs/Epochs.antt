-- What becomes of the epochs in a calm run. The letters: i is a node of the run, e an epoch.
use Rattle.std.specs.Prelude.{◌≡◌, ℕ, ◌<◌, ◌⊎◌, true}
use Rattle.std.specs.List.{list_any}
use Rattle.hb_rules.specs.declared.report.Report.{Report}
use Rattle.hb_rules.specs.Claims.{is_any_closing}
use Rattle.hb_rules.specs.Report.{is_running, cast_by}
use Rattle.aba_progress.specs.RoundsEnd.{HasSpent}

-- the desk of each running node has closed each epoch of the run
abbrev pub HasEachClosed : Report → Type 0
HasEachClosed report = (i e : ℕ) → is_running report i ≡ true → e < report.config.epochs
    → list_any (is_any_closing e) (cast_by report i report.config.n) ≡ true

-- in some lane and epoch of the run a running node has spent its rounds
pub record HasSpentSome (report : Report) : Type 0 where
  pub lane : ℕ
  pub epoch : ℕ
  pub inside : lane < report.config.n
  pub known : epoch < report.config.epochs
  pub spent : HasSpent report lane epoch

-- all epochs are closed at all running nodes, unless one of these has spent its rounds
abbrev pub EpochsEnd : Report → Type 0
EpochsEnd report = HasEachClosed report ⊎ HasSpentSome report
