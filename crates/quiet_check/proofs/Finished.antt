-- What calm runs come to.
use Rattle.hb_rules.specs.declared.report.Report.{Report}
use Rattle.lane_progress.specs.Calm.{IsCalm}
use Rattle.rbc_progress.proofs.Theorems.{delivers_to_all, senders_are_delivered}
use Rattle.aba_progress.proofs.Theorems.{all_end}
use Rattle.quiet_world.proofs.Epochs.{epochs_end}
use Rattle.quiet_check.specs.Finished.{IsFinished}

pub finished : (report : Report) → IsCalm report → IsFinished report
finished report calm = record {
  totality = delivers_to_all report calm;
  senders = senders_are_delivered report calm;
  rounds = all_end report calm;
  epochs = epochs_end report calm;
}
