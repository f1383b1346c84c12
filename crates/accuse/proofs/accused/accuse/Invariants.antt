use Rattle.std.proofs.Common.{◌≡◌}
use Rattle.std.specs.List.{filter_map, range_with_len}
use Rattle.accuse.specs.Accused.{accusation}
use Rattle.accuse.proofs.accused.accuse.Given as goal

abbrev pub invariant-loop-node : goal.invariant-loop-node
invariant-loop-node l = l.found.items ≡ filter_map (accusation l.config l.history) (range_with_len 0 l.node)
