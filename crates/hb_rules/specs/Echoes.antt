-- Echoes of correct nodes.
use Rattle.std.specs.Prelude.{◌≡◌, ℕ, true, false}
use Rattle.hb_base.specs.Numbers.{Numbers}
use Rattle.hb_base.specs.NodeSet.{is_in}
use Rattle.merkle_branch.specs.Branches.{is_branch}
use Rattle.hb_wire.specs.declared.vote.Vote.{Vote}
use Rattle.hb_wire.specs.declared.vote.Vote.TheVariants.{Echo}

-- a vote of node i that is an Echo, if the node is correct, has a branch that leads from its shard, as leaf i, to its root
abbrev pub HasValidBranchIfCorrect : Numbers → ℕ → Vote → Type 0
HasValidBranchIfCorrect c i (Echo e root shard branch) = is_in c.liars i ≡ false → is_branch root c.n i shard branch ≡ true
HasValidBranchIfCorrect c i _ = Unit {0}
