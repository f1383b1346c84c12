use Rattle.std.proofs.Common.{◌≡◌}
use Rattle.library_calls.proofs.shares.first_coin_of_seed_0.Given as goal

-- the number of nodes stays
abbrev pub invariant-loop-m : goal.invariant-loop-m
invariant-loop-m g l = l.shares.n ≡ 4
