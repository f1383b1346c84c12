use Rattle.std.proofs.Common.{◌≡◌, map}
use Rattle.std.specs.List.{range_with_len}
use Rattle.rs_shards.specs.Completing.{completed_shard}
use Rattle.rs_shards.proofs.completing.complete.Given as goal

-- the shards below m
abbrev pub invariant-loop-m : goal.invariant-loop-m
invariant-loop-m l = l.shards.items ≡ map (completed_shard l.got) (range_with_len 0 l.m)
