-- Echoes whose branch is valid.
use Rattle.std.specs.Prelude.{ℕ, Bool, false}
use Rattle.merkle_branch.specs.Branches.{is_branch}
use Rattle.hb_wire.specs.declared.vote.Vote.{Vote}
use Rattle.hb_wire.specs.declared.vote.Vote.TheVariants.{Echo}

-- whether a vote is an Echo whose branch leads from its shard, as leaf m of n, to its root
abbrev pub is_valid_echo : ℕ → ℕ → Vote → Bool
is_valid_echo n m (Echo e root shard branch) = is_branch root n m shard branch
is_valid_echo n m _ = false
