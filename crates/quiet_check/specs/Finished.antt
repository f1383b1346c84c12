-- What calm runs come to.
use Rattle.hb_rules.specs.declared.report.Report.{Report}
use Rattle.rbc_progress.specs.Delivered.{DeliversToAll, SendersAreDelivered}
use Rattle.aba_progress.specs.RoundsEnd.{RoundsEnd}
use Rattle.quiet_world.specs.Epochs.{EpochsEnd}

-- All running nodes deliver what a correct node delivers, and what the desk of a running node proposes. Agreements that all of
-- them began are decided, and all epochs are closed, unless a running node has spent its rounds.
pub record IsFinished (report : Report) : Type 0 where
  pub totality : DeliversToAll report
  pub senders : SendersAreDelivered report
  pub rounds : RoundsEnd report
  pub epochs : EpochsEnd report
