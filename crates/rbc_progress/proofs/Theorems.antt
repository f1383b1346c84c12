-- The theorems on broadcasts in calm runs.
use Rattle.hb_rules.specs.declared.report.Report.{Report}
use Rattle.hb_rules.specs.Report.{is_running}
use Rattle.hb_rules.proofs.Reports.{running_correct}
use Rattle.rbc_world.proofs.Backed.{delivery_lane}
use Rattle.lane_progress.specs.Calm.{IsCalm}
use Rattle.lane_progress.specs.Lanes.{heard_at}
use Rattle.lane_progress.proofs.Lanes.{lane_quiet}
use Rattle.rbc_progress.specs.Delivered.{DeliversToAll, SendersAreDelivered}
use Rattle.rbc_progress.proofs.Totality.{delivery_within, total}
use Rattle.rbc_progress.proofs.Sender.{sender_delivered}

pub delivers_to_all : (report : Report) → IsCalm report → DeliversToAll report
delivers_to_all report calm = record {
  all = λ j e i m value correct here delivered.
      let c = report.config in
      let posts = report.history.items in
      let lane = delivery_lane c i j e value correct.honest posts calm.lossless.legal delivered in
      total c j posts (is_running report) (heard_at report j) (lane_quiet report j calm lane) e
      (delivery_within c posts i j e value calm.lossless.legal correct.honest delivered) i value correct delivered m here;
}

pub senders_are_delivered : (report : Report) → IsCalm report → SendersAreDelivered report
senders_are_delivered report calm = record {
  all = λ j e m value sends here proposes.
      let lane = (running_correct report j sends).known in
      sender_delivered report.config j report.history.items (is_running report) (heard_at report j) (lane_quiet report j calm lane) e value sends proposes m here;
}
