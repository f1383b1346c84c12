-- Transactions that are found by a hash of their bytes, in lists chained through arrays.
use Rattle.std.specs.Prelude.{◌≡◌, ℕ, zero, suc, ◌+◌, ◌*◌, ◌%◌, ◌<◌, ◌==◌, true, List, [], length, fold, slice_index_or, if◌then◌else◌}
use Rattle.tx_pool.specs.Pool.{is_among}

-- how many chains there are: a prime
abbrev pub chains : ℕ
chains = 8191

-- how many transactions fit at most
abbrev pub most_seen : ℕ
most_seen = 32768

-- one byte more
abbrev pub hash_step : ℕ → ℕ → ℕ
hash_step hash byte = (hash * 257 + byte) % 8191

-- the chain of a transaction
unfoldable pub chain_of : List ℕ → ℕ
chain_of tx = fold hash_step 0 tx

-- the number, from 1 on, of the last of the first k transactions that is of this chain; 0 where none is
abbrev pub last_of : ℕ → List (List ℕ) → ℕ → ℕ
last_of chain txs zero = 0
last_of chain txs (suc k) = if chain_of (slice_index_or txs k []) == chain then suc k else last_of chain txs k

-- each chain leads from its last transaction to the one before, and so on
pub record IsChained (txs : List (List ℕ)) (earlier latest : List ℕ) : Type 0 where
  pub same : length earlier ≡ length txs
  pub starts : (chain : ℕ) → chain < chains → slice_index_or latest chain 0 ≡ last_of chain txs (length txs)
  pub leads : (k : ℕ) → k < length txs → slice_index_or earlier k 0 ≡ last_of (chain_of (slice_index_or txs k [])) txs k

-- what was seen stands before, and all that does was seen, unless no more than so many fit
pub record HasSeen (room : ℕ) (seen before : List (List ℕ)) : Type 0 where
  pub stands : (tx : List ℕ) → is_among seen tx ≡ true → is_among before tx ≡ true
  pub all : length seen < room → (tx : List ℕ) → is_among before tx ≡ true → is_among seen tx ≡ true
