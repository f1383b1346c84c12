-- Shards that are given by their indices, and the codeword with these.
use Rattle.std.specs.Prelude.{◌≡◌, ◌≢◌, ℕ, ◌<◌, List, length, take, map, All, AllPairs, slice_get, slice_index, not, ◌==◌, Option, Some, find}
use Rattle.rs_shards.specs.Codeword.{IsCodeword}

-- the indices are distinct and below n
pub record AreShards (n : ℕ) (got : List (ℕ × List ℕ)) : Type 0 where
  pub distinct : AllPairs (λ x y. x.0 ≢ y.0) got
  pub within : All (λ x. x.0 < n) got

-- their lengths
abbrev pub lengths : List (ℕ × List ℕ) → List ℕ
lengths got = map (λ x. length x.1) got

-- the first length that differs from that of the first shard
abbrev pub other_length : List (ℕ × List ℕ) → Option ℕ
other_length got = find (λ len. not (len == slice_index (lengths got) 0)) (lengths got)

-- a codeword in which each of the first k given stands at its index
pub record IsRebuilt (n k : ℕ) (got : List (ℕ × List ℕ)) (shards : List (List ℕ)) : Type 0 where
  pub codeword : IsCodeword n k shards
  pub given : All (λ x. slice_get shards x.0 ≡ Some x.1) (take k got)
