-- Ends for which nothing is left to do.
use Rattle.std.specs.Prelude.{◌≡◌}
use Rattle.hb_rules.specs.declared.report.Fate.TheVariants.{Running}
use Rattle.hb_rules.specs.declared.report.End.{End}
use Rattle.hb_rules.specs.declared.report.Report.{Report}
use Rattle.hb_rules.specs.Report.{IsSettled}
use Rattle.quiet_check.specs.Receipts.{AreReceived}

-- an actor has received only what comes to it, and if it works is settled
pub record IsEndQuiet (report : Report) (end : End) : Type 0 where
  pub got : AreReceived report end
  pub settled : end.fate ≡ Running → IsSettled report end
