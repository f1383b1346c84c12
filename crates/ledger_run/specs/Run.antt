-- What a whole run comes to.
use Rattle.std.specs.Prelude.{◌≡◌}
use Rattle.net_script.specs.declared.script.Script.{Script}
use Rattle.hb_rules.specs.declared.report.Report.{Report}
use Rattle.hb_rules.specs.History.{IsLegal}
use Rattle.hb_rules.specs.Report.{IsQuiet, StaysWithinPlan, FollowsPoolRule}
use Rattle.step_driver.specs.Running.{EndsFullByCause}

-- A report of the run of a script: its history is legal, nothing is left to do, no more was done than is planned, an actor has
-- ended by a full book only where the book is full, and each proposal of a correct desk is of the oldest transactions of its
-- pool.
pub record IsRunOf (s : Script) (report : Report) : Type 0 where
  pub script : report.script ≡ s
  pub config : report.config ≡ s.config
  pub legal : IsLegal report.config report.history.items
  pub quiet : IsQuiet report
  pub plan : StaysWithinPlan report
  pub full : EndsFullByCause report
  pub rule : FollowsPoolRule report
