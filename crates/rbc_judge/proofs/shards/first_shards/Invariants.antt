use Rattle.std.proofs.Common.{◌≡◌, take}
use Rattle.hb_rules.specs.BroadcastRows.{shards_of}
use Rattle.rbc_judge.proofs.shards.first_shards.Given as goal

-- the shards that were shown before this hearing
abbrev pub invariant-loop-said : goal.invariant-loop-said
invariant-loop-said l = l.shards.items ≡ shards_of l.fn.n l.fn.epoch l.root (take l.said-index l.heard)
