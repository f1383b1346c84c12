use Rattle.std.proofs.Common.{◌≡◌, true, is_some}
use Rattle.hb_rules.specs.DeskRows.{accepted_below}
use Rattle.quiet_check.proofs.desks.are_known.Given as goal

-- it is known what each lane before this one comes to
abbrev pub invariant-loop-lane : goal.invariant-loop-lane
invariant-loop-lane l = is_some (accepted_below l.fn.epoch l.heard l.lane) ≡ true
