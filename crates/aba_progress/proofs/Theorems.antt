-- The theorem on the rounds of agreements in calm runs.
use Rattle.std.proofs.Common.{ℕ, ◌<◌, ◌⊎◌, inl, inr, List}
use Rattle.hb_rules.specs.declared.report.Report.{Report}
use Rattle.hb_rules.specs.Hearing.{Hearing}
use Rattle.hb_rules.specs.Marks.{any_est, any_decision}
use Rattle.hb_rules.specs.Report.{is_running}
use Rattle.lane_progress.specs.Calm.{IsCalm}
use Rattle.lane_progress.specs.Lanes.{IsQuietLane, heard_at}
use Rattle.lane_progress.proofs.Lanes.{lane_quiet}
use Rattle.aba_progress.specs.RoundsEnd.{EachHas, HasSpent, RoundsEnd}
use Rattle.aba_progress.proofs.Running.{QuietAgreement}
use Rattle.aba_progress.proofs.Stopping.{rounds_end}

-- where its lane is quiet, an agreement ends with decisions or with spent rounds
end_at : (report : Report) (j e : ℕ) (heard : ℕ → List Hearing) → IsQuietLane report.config j report.history.items (is_running report) heard
    → e < report.config.epochs → EachHas report j e (any_est 0) → EachHas report j e any_decision ⊎ HasSpent report j e
end_at report j e heard lane epoch begun =
    let q : QuietAgreement = record {
      c = report.config;
      j = j;
      e = e;
      history = report.history.items;
      runs = is_running report;
      heard = heard;
      lane = lane;
      epoch = epoch;
    } in
    elim (rounds_end q begun) [
      | inl decided ↦ inl decided
      | inr stalled ↦ inr (record { node = stalled.node; running = stalled.runs; picked = stalled.picked; undecided = stalled.undecided })
    ]

-- in a calm run all agreements end so
pub all_end : (report : Report) → IsCalm report → RoundsEnd report
all_end report calm = record {
  each = λ j e lane epoch begun. end_at report j e (heard_at report j) (lane_quiet report j calm lane) epoch begun;
}
