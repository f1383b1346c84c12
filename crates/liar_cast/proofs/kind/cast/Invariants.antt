use Rattle.std.proofs.Common.{◌≡◌, map, replicate}
use Rattle.std.specs.List.{flat_map}
use Rattle.liar_cast.specs.Kinds.{names, name_of}
use Rattle.liar_cast.proofs.kind.cast.Given as goal

abbrev pub invariant-loop-time : goal.invariant-loop-time
invariant-loop-time l = map name_of l.cast.items ≡ flat_map (λ each. each) (replicate l._time names)
