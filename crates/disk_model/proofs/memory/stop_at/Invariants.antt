use Rattle.std.proofs.Common.{◌≡◌, drop}
use Rattle.disk_model.specs.Memory.{stop_at}
use Rattle.disk_model.proofs.memory.stop_at.Given as goal

abbrev pub invariant-loop-stop : goal.invariant-loop-stop
invariant-loop-stop l = stop_at l.call (drop l.stop-index l.stops) ≡ stop_at l.call l.stops
