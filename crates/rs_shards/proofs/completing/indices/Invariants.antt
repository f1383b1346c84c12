use Rattle.std.proofs.Common.{◌≡◌, take}
use Rattle.rs_shards.specs.Column.{indices_of}
use Rattle.rs_shards.proofs.completing.indices.Given as goal

abbrev pub invariant-loop-shard : goal.invariant-loop-shard
invariant-loop-shard l = l.points.items ≡ indices_of (take l.shard-index l.got)
