use Rattle.std.proofs.Common.{◌≡◌, ◌≤◌, true}
use Rattle.hb_base.specs.Counting.{count_nodes}
use Rattle.hb_rules.specs.Claims.{is_bit}
use Rattle.acs_core.specs.Shown.{shown_at}
use Rattle.acs_core.proofs.shown.count_accepted.Given as goal

abbrev pub invariant-loop-shown : goal.invariant-loop-shown
invariant-loop-shown l = record {
  count : l.count ≡ count_nodes l.shown-index (λ j. is_bit true (shown_at l.lanes j).decision);
  few : l.count ≤ l.shown-index;
}
