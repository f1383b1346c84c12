use Rattle.std.proofs.Common.{◌≡◌, length}
use Rattle.liar_cast.proofs.equivocate.tree_of.Given as goal

abbrev pub invariant-loop-shard : goal.invariant-loop-shard
invariant-loop-shard l = length l.leaves ≡ l.shard-index
