use Rattle.std.proofs.Common.{length, take, ap, arith}
use Rattle.std.proofs.lemmas.List.{length-take}
use Rattle.merkle_branch.proofs.LeavesLemmas.{length-leaf_digests_from}
use Rattle.rbc_core.proofs.checking.tree_over.Goals as goal

pub add-requires : goal.add-requires
add-requires c =
    omega (
      arith,
      ap (λ xs. length xs) c.loop-shard.invariant,
      length-leaf_digests_from 0 (take c.loop-shard.shard-index c.args.shards.now),
      length-take c.loop-shard.shard-index c.args.shards.now,
      c.requires.few,
    )

pub build-requires : goal.build-requires
build-requires c =
    omega (
      arith,
      ap (λ xs. length xs) c.loop-shard.invariant,
      length-leaf_digests_from 0 (take c.loop-shard.shard-index c.args.shards.now),
      length-take c.loop-shard.shard-index c.args.shards.now,
      c.requires.some,
    )
