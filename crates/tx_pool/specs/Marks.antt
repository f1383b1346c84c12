-- A number for each transaction, by which it is found first.
use Rattle.std.specs.Prelude.{ℕ, zero, suc, ◌*◌, ◌/◌, ◌%◌, ◌^◌, List, take, drop, length, bit_xor}
use Rattle.std.specs.Int.{from_le_bytes}
use Rattle.std.specs.List.{fold}
use mir.Syntax.{w64}

-- one number more is taken in
unfoldable pub stir : ℕ → ℕ → ℕ
stir m n = bit_xor ((m * 0x9e37_79b9_7f4a_7c15) % 2 ^ 64) n

-- eight bytes as a number, the lowest first
unfoldable pub word : List ℕ → ℕ
word bytes = from_le_bytes w64 bytes

-- so many words from the front, and then the bytes that are left
unfoldable pub stir_words : ℕ → ℕ → List ℕ → ℕ
stir_words zero m bytes = fold stir m bytes
stir_words (suc n) m bytes = stir_words n (stir m (word (take 8 bytes))) (drop 8 bytes)

-- A hash of all bytes. Transactions may share it.
unfoldable pub mark : List ℕ → ℕ
mark tx = stir_words (length tx / 8) 0 tx
