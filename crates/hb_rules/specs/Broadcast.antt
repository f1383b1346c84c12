-- What a lane may cast in the reliable broadcast of an epoch (CCS 2016, figure 2), by what it has cast there (own) and
-- what it has heard.
use Rattle.std.specs.Prelude.{◌≡◌, ℕ, ◌+◌, ◌≤◌, ◌⊎◌, false, List, Contains}
use Rattle.std.specs.List.{list_any}
use Rattle.hb_base.specs.Numbers.{Numbers}
use Rattle.merkle_branch.specs.declared.Branch.{Branch}
use Rattle.merkle_branch.specs.Branches.{IsBranch}
use Rattle.hb_wire.specs.declared.vote.Vote.{Vote}
use Rattle.hb_wire.specs.declared.vote.Vote.TheVariants.{Val, Echo, Ready, Delivered, Propose}
use Rattle.hb_rules.specs.Claims.{is_val_to, is_any_echo, is_any_ready, is_any_delivery}
use Rattle.hb_rules.specs.Hearing.{Hearing, hearing, heard_by}
use Rattle.hb_rules.specs.Code.{IsCodedShard, HasQuorum, HasDelivery, ready_count}

-- shard m of a value that the own desk of node i has proposed, with its root and its branch
pub record IsProposedShard (c : Numbers) (i e : ℕ) (heard : List Hearing) (m : ℕ) (root shard : List ℕ) (branch : Branch) : Type 0 where
  pub value : List ℕ
  pub proposed : Contains heard (hearing i (Propose e value))
  pub coded : IsCodedShard c value m root shard branch

-- What lane j of node i may cast. The sender, node j, sends each node its shard of the value that its desk proposed,
-- once. A node echoes one shard that the sender sent to it, with a branch that is right. It is ready for one root, for
-- which n - f nodes have shown valid Echoes that rebuild to it, or f + 1 nodes are ready. It delivers one value, of a root
-- for which 2f + 1 nodes are ready and to which k valid Echoes rebuild.
abbrev pub MayBroadcast : Numbers → ℕ → ℕ → List Vote → List Hearing → Vote → Type 0
MayBroadcast c i j own heard (Val e m root shard branch) =
    (i ≡ j) × IsProposedShard c i e heard m root shard branch × (list_any (is_val_to e m) own ≡ false)
MayBroadcast c i j own heard (Echo e root shard branch) =
    Contains heard (hearing j (Val e i root shard branch)) × IsBranch root c.n i shard branch × (list_any (is_any_echo e) own ≡ false)
MayBroadcast c i j own heard (Ready e root) =
    (HasQuorum c e root (heard_by heard) ⊎ (c.f + 1 ≤ ready_count c.n e root (heard_by heard))) × (list_any (is_any_ready e) own ≡ false)
MayBroadcast c i j own heard (Delivered e value) =
    HasDelivery c e value (heard_by heard) × (list_any (is_any_delivery e) own ≡ false)
MayBroadcast c i j own heard _ = ⊥
