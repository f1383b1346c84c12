-- The codeword with some given shards, and that of a value.
use Rattle.std.specs.Prelude.{◌≡◌, ℕ, ◌+◌, ◌-◌, ◌*◌, ◌/◌, Bool, ◌&&◌, ◌==◌, List, length, map, take, drop, nat_lt}
use Rattle.std.specs.List.{list_all, range_with_len}
use Rattle.gf_field.specs.Polynomial.{polynomial_at}
use Rattle.gf_field.specs.Interpolation.{interpolation}
use Rattle.rs_shards.specs.Codeword.{IsCodeword, data_of}
use Rattle.rs_shards.specs.Column.{indices_of, shard_at, column_of}
use Rattle.rs_shards.specs.Frame.{frame}

-- whether all have one length, and consist of bytes
unfoldable pub are_even : List (ℕ × List ℕ) → Bool
are_even got = list_all (λ x. length x.1 == length (shard_at got 0) && list_all (λ b. nat_lt b 256) x.1) got

-- shard m of the codeword with these: in each column the value at m of the polynomial through the given bytes
unfoldable pub completed_shard : List (ℕ × List ℕ) → ℕ → List ℕ
completed_shard got m =
    map (λ column. polynomial_at (interpolation (indices_of got) (column_of got column)) m) (range_with_len 0 (length (shard_at got 0)))

-- all n shards of the codeword with the first k given
unfoldable pub completed : ℕ → ℕ → List (ℕ × List ℕ) → List (List ℕ)
completed n k got = map (completed_shard (take k got)) (range_with_len 0 n)

-- the i-th piece of this width, with its place
abbrev pub piece_at : ℕ → List ℕ → ℕ → ℕ × List ℕ
piece_at width bytes i = (i, take width (drop (i * width) bytes))

-- k pieces of one width, which bytes of k times that width are cut into
unfoldable pub pieces : ℕ → List ℕ → List (ℕ × List ℕ)
pieces k bytes = map (piece_at (length bytes / k) bytes) (range_with_len 0 k)

-- the n shards of a value: those of the codeword whose first k are the pieces of its frame
unfoldable pub encoded : ℕ → ℕ → List ℕ → List (List ℕ)
encoded n k value = completed n k (pieces k (frame k value))

-- they are those of a value: a codeword whose first k shards, put together, are its frame
pub record IsEncoding (n k : ℕ) (value : List ℕ) (shards : List (List ℕ)) : Type 0 where
  pub codeword : IsCodeword n k shards
  pub framed : data_of k shards ≡ frame k value

-- the length of the shards of a value of so many bytes: a k-th part of it and its length field, rounded up
abbrev pub shard_length : ℕ → ℕ → ℕ
shard_length k len = (4 + len + (k - 1)) / k
