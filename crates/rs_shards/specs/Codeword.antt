-- Codewords of the erasure code: byte strings of one length whose columns are values of polynomials (Reed and Solomon 1960).
use Rattle.std.specs.Prelude.{◌≡◌, ℕ, ◌<◌, List, [], length, take, slice_index, slice_index_or}
use Rattle.std.specs.List.{concat}
use Rattle.gf_field.specs.Polynomial.{polynomial_at, HasDegreeBelow}

-- byte `column` of shard m
abbrev pub byte_at : List (List ℕ) → ℕ → ℕ → ℕ
byte_at shards m column = slice_index (slice_index_or shards m []) column

-- the length of the shards, which is that of the first
abbrev pub width_of : List (List ℕ) → ℕ
width_of shards = length (slice_index_or shards 0 [])

-- n shards of one length; in each column, shard m has the value at m of one polynomial of a degree below k
pub record IsCodeword (n k : ℕ) (shards : List (List ℕ)) : Type 0 where
  pub count : length shards ≡ n
  pub width : (m : ℕ) → m < n → length (slice_index_or shards m []) ≡ width_of shards
  pub column : (i : ℕ) → i < width_of shards → (cs : List ℕ) × HasDegreeBelow k cs × ((m : ℕ) → m < n → polynomial_at cs m ≡ byte_at shards m i)

-- the first k shards, the data shards, put together
abbrev pub data_of : ℕ → List (List ℕ) → List ℕ
data_of k shards = concat (take k shards)
