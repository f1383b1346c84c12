use Rattle.std.proofs.Common.{◌≡◌, drop}
use Rattle.hb_rules.specs.DeskRows.{decision_of}
use Rattle.quiet_check.proofs.desks.decision_of.Given as goal

-- the first is among those from here on
abbrev pub invariant-loop-said : goal.invariant-loop-said
invariant-loop-said l = decision_of l.fn.epoch l.heard l.fn.lane ≡ decision_of l.fn.epoch (drop l.said-index l.heard) l.fn.lane
