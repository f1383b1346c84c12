use Rattle.std.proofs.Common.{◌≡◌, map}
use Rattle.std.specs.List.{range_with_len}
use Rattle.scenario_gen.specs.Generated.{dropped_from}
use Rattle.scenario_gen.proofs.numbers.links_of.Given as goal

-- the rules so far
abbrev pub invariant-loop-j : goal.invariant-loop-j
invariant-loop-j l = l.rules.items ≡ map (dropped_from l.fn.n) (range_with_len 0 l.j)
