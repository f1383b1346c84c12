-- Shards that are given with their indices, one after another.
use Rattle.std.specs.Prelude.{◌≡◌, ℕ, ◌<◌, List, [], length, map, slice_index, slice_index_or}
use Rattle.hb_base.specs.ByteLists.{AreBytes}

-- their indices
abbrev pub indices_of : List (ℕ × List ℕ) → List ℕ
indices_of got = map (λ x. x.0) got

-- the i-th one
abbrev pub shard_at : List (ℕ × List ℕ) → ℕ → List ℕ
shard_at got i = (slice_index_or got i (0, [])).1

-- one byte of each
abbrev pub column_of : List (ℕ × List ℕ) → ℕ → List ℕ
column_of got column = map (λ x. slice_index x.1 column) got

-- all have one length, and consist of bytes
pub record AreEven (got : List (ℕ × List ℕ)) : Type 0 where
  pub equal : (i : ℕ) → i < length got → length (shard_at got i) ≡ length (shard_at got 0)
  pub bytes : (i : ℕ) → i < length got → AreBytes (shard_at got i)
