-- How the agreements of a run end. The letters: j is a lane, e an epoch, i a node.
use Rattle.std.specs.Prelude.{◌≡◌, ℕ, ◌-◌, ◌<◌, ◌⊎◌, true, false}
use Rattle.hb_rules.specs.declared.report.Report.{Report}
use Rattle.hb_rules.specs.Marks.{Mark, any_est, any_pick, any_decision, has}
use Rattle.hb_rules.specs.Report.{is_running, cast_by}

-- lane j of each running node has cast a vote with this mark in the epoch
abbrev pub EachHas : Report → ℕ → ℕ → Mark → Type 0
EachHas report j e mark = (i : ℕ) → is_running report i ≡ true → has e mark (cast_by report i j) ≡ true

-- lane j of a running node has spent its rounds in the epoch: it has picked in the last, and has decided nothing
pub record HasSpent (report : Report) (j e : ℕ) : Type 0 where
  pub node : ℕ
  pub running : is_running report node ≡ true
  pub picked : has e (any_pick (report.config.rounds - 1)) (cast_by report node j) ≡ true
  pub undecided : has e any_decision (cast_by report node j) ≡ false

-- where all running nodes have an estimate of round 0 in a lane and epoch, all have decided there, or one has spent its rounds
pub record RoundsEnd (report : Report) : Type 0 where
  pub each : (j e : ℕ) → j < report.config.n → e < report.config.epochs → EachHas report j e (any_est 0)
      → EachHas report j e any_decision ⊎ HasSpent report j e
