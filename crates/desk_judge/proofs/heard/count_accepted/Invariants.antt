use Rattle.std.proofs.Common.{◌≡◌, ◌≤◌, true}
use Rattle.hb_rules.specs.Claims.{is_decision}
use Rattle.hb_rules.specs.Hearing.{heard_by, count_shown}
use Rattle.desk_judge.proofs.heard.count_accepted.Given as goal

-- so many of the lanes before this one
abbrev pub invariant-loop-lane : goal.invariant-loop-lane
invariant-loop-lane l = record {
  count : l.count ≡ count_shown l.lane (heard_by l.heard) (is_decision l.fn.epoch true);
  few : l.count ≤ l.lane;
}
