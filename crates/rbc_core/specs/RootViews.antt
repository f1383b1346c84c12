-- What was heard of one root.
use Rattle.std.specs.Prelude.{ℕ, Bool, true, false, List, [], ◌∷◌, ◌++◌, take, replicate, slice_set, Option, None}
use Rattle.hb_base.specs.Limits.{most_nodes}
use Rattle.rbc_core.specs.declared.root_state.RootState.{RootState}

-- what was heard of a root: who echoed it validly, who is ready for it, the shards of the first k who echoed, in order, and
-- the value to which they rebuild
pub record RootView : Type 0 where
  pub echoes : List Bool
  pub readies : List Bool
  pub shards : List (ℕ × List ℕ)
  pub value : Option (List ℕ)

-- nothing
abbrev pub unheard : RootView
unheard = record { echoes = replicate most_nodes false; readies = replicate most_nodes false; shards = []; value = None }

-- what a root's state shows
abbrev pub root_view : RootState → RootView
root_view s = record { echoes = s.echoes; readies = s.readies; shards = s.shards.items; value = s.value }

-- the first k of some shards and one more
abbrev pub first_with : ℕ → List (ℕ × List ℕ) → ℕ × List ℕ → List (ℕ × List ℕ)
first_with k shards x = take k (shards ++ x ∷ [])

-- after a node's first valid Echo, with this shard, where the first k shards then rebuild to this value
abbrev pub with_echo : ℕ → RootView → ℕ → List ℕ → Option (List ℕ) → RootView
with_echo k v node shard value = record {
  echoes = slice_set v.echoes node true;
  readies = v.readies;
  shards = first_with k v.shards (node, shard);
  value = value;
}
