use Rattle.std.proofs.Common.{◌≡◌, Some}
use Rattle.acs_core.specs.Shown.{accepted_of}
use Rattle.acs_core.proofs.shown.accepted.Given as goal

abbrev pub invariant-loop-shown : goal.invariant-loop-shown
invariant-loop-shown l = record {
  node : l.node ≡ l.shown-index;
  items : accepted_of l.lanes l.node ≡ Some l.items;
}
