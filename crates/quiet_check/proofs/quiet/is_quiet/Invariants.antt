use Rattle.std.proofs.Common.{◌≡◌, ℕ, ◌<◌, Some, slice_get}
use Rattle.hb_rules.specs.declared.report.End.{End}
use Rattle.quiet_check.specs.Ends.{IsEndQuiet}
use Rattle.quiet_check.proofs.quiet.is_quiet.Given as goal

-- nothing is left to do for the actors before this one
abbrev pub invariant-loop-end : goal.invariant-loop-end
invariant-loop-end l = (p : ℕ) (end : End) → p < l.end-index → slice_get l.report.ends.items p ≡ Some end → IsEndQuiet l.report end
