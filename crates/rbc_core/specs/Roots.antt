-- What was heard of the roots of one broadcast.
use Rattle.std.specs.Prelude.{◌≡◌, ℕ, ◌^◌, ◌<◌, ◌≤◌, true, List, length, slice_set, All, Option, Some, if◌then◌else◌, unwrap_or, bytes_eq}
use Rattle.std.specs.Map.{lookup}
use Rattle.hb_base.specs.Limits.{most_nodes}
use Rattle.hb_base.specs.Numbers.{Numbers}
use Rattle.hb_base.specs.NodeSet.{is_in}
use Rattle.rs_shards.specs.Rebuilding.{AreShards}
use Rattle.hb_rules.specs.Code.{data_count}
use Rattle.hb_rules.specs.FirstShown.{has_node}
use Rattle.hb_rules.specs.BroadcastRows.{value_through}
use Rattle.rbc_core.specs.RootViews.{RootView, unheard, first_with, with_echo}

-- the roots that were heard of, and what was heard of each
pub record RootsView : Type 0 where
  pub config : Numbers
  pub table : List (List ℕ × RootView)

-- what was heard of a root, if it was heard of
abbrev pub found : RootsView → List ℕ → Option RootView
found roots root = lookup (bytes_eq root) roots.table

-- what was heard of a root
abbrev pub view_at : RootsView → List ℕ → RootView
view_at roots root = unwrap_or (found roots root) unheard

-- The shards are of different nodes, each of which echoed, no more than k, each below 2 ^ 32 bytes, and the value is the one
-- to which they rebuild. The sets have a mark for each node.
pub record IsRootView (c : Numbers) (root : List ℕ) (v : RootView) : Type 0 where
  pub shards : AreShards c.n v.shards
  pub few : length v.shards ≤ data_count c
  pub short : All (λ x. length x.1 < 2 ^ 32) v.shards
  pub echoed : (a : ℕ) → has_node v.shards a ≡ true → is_in v.echoes a ≡ true
  pub value : v.value ≡ value_through c root v.shards
  pub echoes : length v.echoes ≡ most_nodes
  pub readies : length v.readies ≡ most_nodes

-- what was heard of each root is so
pub record AreRootViews (roots : RootsView) : Type 0 where
  pub each : (root : List ℕ) → IsRootView roots.config root (view_at roots root)

-- the value to which the first k shards of a root rebuild with this one of a node that has not echoed
abbrev pub value_with : Numbers → List ℕ → RootView → ℕ → List ℕ → Option (List ℕ)
value_with c root v node shard = value_through c root (first_with (data_count c) v.shards (node, shard))

-- after a node's first valid Echo of a root, with this shard
abbrev pub after_echo : Numbers → List ℕ → RootView → ℕ → List ℕ → RootView
after_echo c root v node shard = with_echo (data_count c) v node shard (value_with c root v node shard)

-- after a node's first Ready
abbrev pub after_ready : RootView → ℕ → RootView
after_ready v node = record v { readies = slice_set v.readies node true }

-- this was heard of one root now, and of the others what was
pub record Finds (old new : RootsView) (root : List ℕ) (v : RootView) : Type 0 where
  pub config : new.config ≡ old.config
  pub found : (other : List ℕ) → found new other ≡ (if bytes_eq root other then Some v else found old other)

-- of each root was heard what was
pub record IsUnchanged (old new : RootsView) : Type 0 where
  pub config : new.config ≡ old.config
  pub found : (root : List ℕ) → found new root ≡ found old root
