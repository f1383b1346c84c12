use Rattle.std.proofs.Common.{◌≡◌}
use Rattle.rbc_core.specs.Broadcast.{place_of}
use Rattle.lane_cases.proofs.broadcasts.due_after.Given as goal

abbrev pub invariant-loop-from : goal.invariant-loop-from
invariant-loop-from l = (place_of l.rbc).config ≡ l.fn.config

abbrev pub invariant-loop-from-2 : goal.invariant-loop-from-2
invariant-loop-from-2 l = (place_of l.rbc).config ≡ l.fn.config
