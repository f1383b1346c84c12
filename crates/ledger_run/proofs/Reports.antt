-- The report of a run, with any status.
use Rattle.std.proofs.Common.{refl}
use Rattle.hb_rules.specs.History.{IsLegal}
use Rattle.hb_rules.specs.Report.{IsQuiet, StaysWithinPlan, FollowsPoolRule}
use Rattle.net_script.specs.declared.script.Script.{Script}
use Rattle.step_driver.specs.declared.run.Done.{Done}
use Rattle.step_driver.specs.Running.{report_of, EndsFullByCause}
use Rattle.ledger_run.specs.Run.{IsRunOf}

pub is_run : (s : Script) (done : Done) → IsLegal s.config done.history.items → IsQuiet (report_of s.config s done)
    → StaysWithinPlan (report_of s.config s done) → FollowsPoolRule (report_of s.config s done) → EndsFullByCause (report_of s.config s done)
    → IsRunOf s (report_of s.config s done)
is_run s done legal quiet plan rule full = record { script = refl; config = refl; legal = legal; quiet = quiet; plan = plan; full = full; rule = rule }
