-- What a judge of broadcasts has worked out.
use Rattle.std.specs.Prelude.{◌≡◌, ℕ, List, Option, length}
use Rattle.hb_base.specs.Numbers.{Numbers}
use Rattle.merkle_branch.specs.Digests.{leaf_digests}
use Rattle.rs_shards.specs.Completing.{encoded}
use Rattle.hb_rules.specs.BroadcastRows.{value_through}

-- a value, its n shards with k that carry it, and the tree over them
pub record EncodingView : Type 0 where
  pub n : ℕ
  pub k : ℕ
  pub value : List ℕ
  pub shards : List (List ℕ)
  pub tree : List (List ℕ)

pub record IsEncoded (e : EncodingView) : Type 0 where
  pub count : length e.shards ≡ e.n
  pub size : length e.tree ≡ e.n
  pub shards : e.shards ≡ encoded e.n e.k e.value
  pub tree : e.tree ≡ leaf_digests e.shards

-- shards of a run with n nodes, of which f may be faulty, and what they rebuild to under a root
pub record RebuildingView : Type 0 where
  pub n : ℕ
  pub f : ℕ
  pub root : List ℕ
  pub shards : List (ℕ × List ℕ)
  pub value : Option (List ℕ)

abbrev pub IsRebuilding : RebuildingView → Type 0
IsRebuilding r = (c : Numbers) → c.n ≡ r.n → c.f ≡ r.f → r.value ≡ value_through c r.root r.shards
