use Rattle.std.proofs.Common.{ℕ, ◌<◌}
use Rattle.quiet_check.specs.Receipts.{IsMarkedAt}
use Rattle.quiet_check.proofs.receipts.are_marked.Given as goal

-- no post before this one is missing
abbrev pub invariant-loop-number : goal.invariant-loop-number
invariant-loop-number l = (k : ℕ) → k < l.number → IsMarkedAt l.report l.end l.sent l.marks k
