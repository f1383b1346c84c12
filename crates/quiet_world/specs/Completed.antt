-- Ledgers of running nodes in the report of a run.
use Rattle.std.specs.Prelude.{◌≡◌, ℕ, ◌<◌, true, length}
use Rattle.hb_rules.specs.declared.report.Report.{Report}
use Rattle.hb_rules.specs.Ledger.{ledger, IsComplete}
use Rattle.hb_rules.specs.Report.{is_running}

-- the ledger of a running node has more than e lists, where in each epoch up to e all lanes of the node have finished
abbrev pub HasEachCompleted : Report → Type 0
HasEachCompleted report = (i e : ℕ) → is_running report i ≡ true → IsComplete report.config report.history.items i e
    → e < length (ledger report.config report.history.items i)
