use Rattle.std.proofs.Common.{◌≡◌, length, take}
use Rattle.merkle_branch.specs.Digests.{leaf_digests}
use Rattle.library_calls.proofs.tree_over.Given as goal

-- the leaves so far
abbrev pub invariant-loop-shard : goal.invariant-loop-shard
invariant-loop-shard l = record {
  count : length l.leaves ≡ l.shard-index;
  leaves : l.leaves ≡ leaf_digests (take l.shard-index l.shards);
}
