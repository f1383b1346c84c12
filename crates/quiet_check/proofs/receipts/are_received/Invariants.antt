use Rattle.std.proofs.Common.{ℕ, ◌<◌, get_or}
use Rattle.hb_rules.specs.Report.{IsReceived}
use Rattle.quiet_check.proofs.receipts.are_received.Given as goal

-- the posts before this one have come
abbrev pub invariant-loop-number : goal.invariant-loop-number
invariant-loop-number l =
    (p : ℕ) → p < l.number-index
    → IsReceived l.report.config l.report.script l.report.history.items l.end.node l.end.actor (get_or l.end.got.items p 0)
