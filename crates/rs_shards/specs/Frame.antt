-- The frame of a value, of which the data shards are the pieces, and the value that a frame holds.
use Rattle.std.specs.Prelude.{ℕ, ◌+◌, ◌-◌, ◌%◌, Bool, ◌&&◌, ◌==◌, List, [], ◌++◌, length, take, drop, replicate, nat_lt, nat_le, if◌then◌else◌}
use Rattle.std.specs.List.{list_all}
use Rattle.std.specs.Int.{w32, to_be_bytes, from_be_bytes}
use Rattle.hb_base.specs.Limits.{longest_value}
use Rattle.rs_shards.specs.Codeword.{data_of}

-- the fewest bytes that make a length a multiple of k
abbrev pub padding : ℕ → ℕ → ℕ
padding k n = (k - n % k) % k

-- the length of a value in four bytes, the highest first, and the value
abbrev pub with_length : List ℕ → List ℕ
with_length value = to_be_bytes w32 (length value) ++ value

-- these, and the fewest zero bytes that make the whole a multiple of k bytes
unfoldable pub frame : ℕ → List ℕ → List ℕ
frame k value = with_length value ++ replicate (padding k (length (with_length value))) 0

-- the length that the first four bytes of a frame state
abbrev pub stated_length : List ℕ → ℕ
stated_length bytes = from_be_bytes w32 (take 4 bytes)

-- The frame has its length field, which states no more bytes than a value may have and than follow; fewer than k
-- bytes follow the value, and each of these is zero.
unfoldable pub is_frame : ℕ → List ℕ → Bool
is_frame k bytes =
    nat_le 4 (length bytes)
    && (nat_le (stated_length bytes) longest_value
    && (nat_le (4 + stated_length bytes) (length bytes)
    && (nat_lt (length bytes - (4 + stated_length bytes)) k
    && list_all (λ b. b == 0) (drop (4 + stated_length bytes) bytes))))

-- the value in a frame, and the empty value where the frame is false
unfoldable pub value_in : ℕ → List ℕ → List ℕ
value_in k bytes = if is_frame k bytes then take (stated_length bytes) (drop 4 bytes) else []

-- the value that is read from the data shards
abbrev pub framed_value : ℕ → List (List ℕ) → List ℕ
framed_value k shards = value_in k (data_of k shards)
