use Rattle.std.proofs.Common.{◌≡◌, ◌≤◌, true}
use Rattle.hb_base.specs.Counting.{count_nodes}
use Rattle.hb_rules.specs.Claims.{is_bit}
use Rattle.hb_rules.specs.DeskRows.{decision_of}
use Rattle.quiet_check.proofs.desks.count_accepted.Given as goal

-- so many of the lanes before this one
abbrev pub invariant-loop-lane : goal.invariant-loop-lane
invariant-loop-lane l = record {
  count : l.count ≡ count_nodes l.lane (λ j. is_bit true (decision_of l.fn.epoch l.heard j));
  few : l.count ≤ l.lane;
}
