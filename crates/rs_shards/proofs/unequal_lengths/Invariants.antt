use Rattle.std.proofs.Common.{◌≡◌, ℕ, ◌<◌, length}
use Rattle.hb_base.specs.ByteLists.{AreBytes}
use Rattle.rs_shards.specs.Column.{shard_at}
use Rattle.rs_shards.proofs.unequal_lengths.Given as goal

-- the shards so far have the length of the first
abbrev pub invariant-loop-shard : goal.invariant-loop-shard
invariant-loop-shard l = record {
  equal : (i : ℕ) → i < l.shard-index → length (shard_at l.shards i) ≡ l.a;
  bytes : (i : ℕ) → i < l.shard-index → AreBytes (shard_at l.shards i);
}
