use Rattle.std.proofs.Common.{◌≡◌, take}
use Rattle.merkle_branch.specs.Digests.{leaf_digests}
use Rattle.rbc_core.proofs.checking.tree_over.Given as goal

abbrev pub invariant-loop-shard : goal.invariant-loop-shard
invariant-loop-shard l = l.leaves ≡ leaf_digests (take l.shard-index l.shards)
