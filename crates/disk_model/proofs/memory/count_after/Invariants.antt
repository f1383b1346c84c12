use Rattle.std.proofs.Common.{◌≡◌, ◌≤◌, take}
use Rattle.disk_model.specs.Memory.{stops_after}
use Rattle.disk_model.proofs.memory.count_after.Given as goal

abbrev pub invariant-loop-stop : goal.invariant-loop-stop
invariant-loop-stop l = record {
  count : l.count ≡ stops_after l.calls (take l.stop-index l.stops);
  few : l.count ≤ l.stop-index;
}
