-- Who delivers in the reliable broadcasts of a run (CCS 2016, section 4.2). The letters: e is an epoch, j a lane, i and m nodes.
use Rattle.std.specs.Prelude.{◌≡◌, ℕ, true, List, Contains}
use Rattle.hb_wire.specs.declared.vote.Vote.TheVariants.{Delivered, Propose}
use Rattle.hb_rules.specs.declared.report.Report.{Report}
use Rattle.hb_rules.specs.Ledger.{IsCorrect}
use Rattle.hb_rules.specs.Report.{is_running, cast_by}

-- what some correct node delivers in a lane and epoch, running or not, each running node delivers there
pub record DeliversToAll (report : Report) : Type 0 where
  pub all : (j e i m : ℕ) (value : List ℕ) → IsCorrect report.config i → is_running report m ≡ true
      → Contains (cast_by report i j) (Delivered e value) → Contains (cast_by report m j) (Delivered e value)

-- what the desk of a running node proposes for an epoch, each running node delivers in the lane of that node
pub record SendersAreDelivered (report : Report) : Type 0 where
  pub all : (j e m : ℕ) (value : List ℕ) → is_running report j ≡ true → is_running report m ≡ true
      → Contains (cast_by report j report.config.n) (Propose e value) → Contains (cast_by report m j) (Delivered e value)
