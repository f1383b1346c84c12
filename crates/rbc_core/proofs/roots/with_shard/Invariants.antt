use Rattle.std.proofs.Common.{◌≡◌, take}
use Rattle.rbc_core.proofs.roots.with_shard.Given as goal

abbrev pub invariant-loop-other : goal.invariant-loop-other
invariant-loop-other l = l.got.items ≡ take l.other-index l.shards
