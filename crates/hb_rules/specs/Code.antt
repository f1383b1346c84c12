-- What the shards of a broadcast prove (CCS 2016, figure 2). `shown` says which node has shown which vote, and k of the n
-- shards give back all of them.
use Rattle.std.specs.Prelude.{◌≡◌, ℕ, ◌+◌, ◌-◌, ◌*◌, ◌≤◌, Bool, true, List, length, All, slice_get, Some}
use Rattle.hb_base.specs.Counting.{count_nodes}
use Rattle.hb_base.specs.Numbers.{Numbers}
use Rattle.merkle_branch.specs.declared.Branch.{Branch}
use Rattle.merkle_branch.specs.Digests.{tree_root, leaf_digests}
use Rattle.merkle_branch.specs.Branches.{branch_of}
use Rattle.rs_shards.specs.Frame.{framed_value}
use Rattle.rs_shards.specs.Completing.{IsEncoding}
use Rattle.rs_shards.specs.Rebuilding.{AreShards, IsRebuilt}
use Rattle.hb_wire.specs.declared.vote.Vote.{Vote}
use Rattle.hb_rules.specs.Claims.{is_echo, is_shard_echo, is_ready}
use Rattle.hb_rules.specs.Hearing.{count_shown}

-- how many shards give back all
abbrev pub data_count : Numbers → ℕ
data_count c = c.n - 2 * c.f

-- root, shard and branch are those of shard m of the codeword of a value
pub record IsCodedShard (c : Numbers) (value : List ℕ) (m : ℕ) (root shard : List ℕ) (branch : Branch) : Type 0 where
  pub shards : List (List ℕ)
  pub encoding : IsEncoding c.n (data_count c) value shards
  pub root_is : tree_root shards ≡ root
  pub shard_is : slice_get shards m ≡ Some shard
  pub branch_is : branch_of (leaf_digests shards) m ≡ branch

-- k nodes, each with its shard, of which each has shown a valid Echo for this root with this shard
pub record AreEchoes (n k e : ℕ) (root : List ℕ) (shown : ℕ → (Vote → Bool) → Bool) (got : List (ℕ × List ℕ)) : Type 0 where
  pub enough : length got ≡ k
  pub shards : AreShards n got
  pub each : All (λ x. shown x.0 (is_shard_echo n e root x.0 x.1) ≡ true) got

-- the codeword through the shards of some k valid Echoes for this root has this root
pub record AreEchoed (n k e : ℕ) (root : List ℕ) (shown : ℕ → (Vote → Bool) → Bool) (shards : List (List ℕ)) : Type 0 where
  pub got : List (ℕ × List ℕ)
  pub echoes : AreEchoes n k e root shown got
  pub rebuilt : IsRebuilt n k got shards
  pub root_is : tree_root shards ≡ root

-- how many nodes have shown a valid Echo for the root
abbrev pub echo_count : ℕ → ℕ → List ℕ → (ℕ → (Vote → Bool) → Bool) → ℕ
echo_count n e root shown = count_nodes n (λ a. shown a (is_echo n e root a))

-- how many nodes have shown that they are ready for the root
abbrev pub ready_count : ℕ → ℕ → List ℕ → (ℕ → (Vote → Bool) → Bool) → ℕ
ready_count n e root shown = count_shown n shown (is_ready e root)

-- n - f nodes have shown valid Echoes for the root, and the codeword through the shards of some k of them has this root
pub record HasQuorum (c : Numbers) (e : ℕ) (root : List ℕ) (shown : ℕ → (Vote → Bool) → Bool) : Type 0 where
  pub echoes : c.n - c.f ≤ echo_count c.n e root shown
  pub shards : List (List ℕ)
  pub echoed : AreEchoed c.n (data_count c) e root shown shards

-- 2f + 1 nodes are ready for some root, and the codeword through the shards of some k valid Echoes for it has this root
-- and carries the value
pub record HasDelivery (c : Numbers) (e : ℕ) (value : List ℕ) (shown : ℕ → (Vote → Bool) → Bool) : Type 0 where
  pub root : List ℕ
  pub readies : 2 * c.f + 1 ≤ ready_count c.n e root shown
  pub shards : List (List ℕ)
  pub echoed : AreEchoed c.n (data_count c) e root shown shards
  pub value_is : framed_value (data_count c) shards ≡ value
