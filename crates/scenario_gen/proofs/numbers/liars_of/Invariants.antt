use Rattle.std.proofs.Common.{◌≡◌}
use Rattle.scenario_gen.specs.Generated.{first_liar, nodes_from}
use Rattle.scenario_gen.proofs.numbers.liars_of.Given as goal

-- the liars marked so far
abbrev pub invariant-loop-j : goal.invariant-loop-j
invariant-loop-j l = l.liars ≡ nodes_from (first_liar l.fn.n) l.j
