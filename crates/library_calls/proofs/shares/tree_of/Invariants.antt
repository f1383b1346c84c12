use Rattle.std.proofs.Common.{◌≡◌, length}
use Rattle.library_calls.proofs.shares.tree_of.Given as goal

-- a leaf of each node so far
abbrev pub invariant-loop-m : goal.invariant-loop-m
invariant-loop-m l = length l.leaves ≡ l.m
