-- A batch is a list of transactions, and its bytes.
use Rattle.std.specs.Prelude.{ℕ, zero, suc, ◌≤◌, ◌||◌, ◌==◌, nat_lt, if◌then◌else◌, List, [], ◌∷◌, ◌++◌}
use Rattle.std.specs.Prelude.{length, take, drop, Option, Some, None}
use Rattle.std.specs.List.{flat_map, AllByRecursion}
use Rattle.std.specs.Int.{w16, from_be_bytes, to_be_bytes}
use Rattle.hb_base.specs.Limits.{most_batch, longest_transaction, IsTransaction}
use Rattle.hb_wire.specs.Reading.{◌>>=◌, block_at}

-- a length of 2 bytes, and that many bytes
abbrev pub transaction_bytes : List ℕ → List ℕ
transaction_bytes transaction = to_be_bytes w16 (length transaction) ++ transaction

-- a count of 2 bytes, and that many transactions
abbrev pub batch_bytes : List (List ℕ) → List ℕ
batch_bytes batch = to_be_bytes w16 (length batch) ++ flat_map transaction_bytes batch

pub record IsBatch (batch : List (List ℕ)) : Type 0 where
  pub few : length batch ≤ most_batch
  pub fit : AllByRecursion IsTransaction batch

-- ---- reading

abbrev pub short_at : List ℕ → Option (ℕ × List ℕ)
short_at bytes = if nat_lt (length bytes) 2 then None else Some (from_be_bytes w16 (take 2 bytes), drop 2 bytes)

unfoldable pub transaction_at : List ℕ → Option (List ℕ × List ℕ)
transaction_at bytes = short_at bytes >>= λ n. if nat_lt n.0 1 || nat_lt longest_transaction n.0 then None else block_at n.0 n.1

unfoldable pub transactions_at : ℕ → List ℕ → Option (List (List ℕ) × List ℕ)
transactions_at zero bytes = Some ([], bytes)
transactions_at (suc count) bytes =
    transaction_at bytes >>= λ first.
    transactions_at count first.1 >>= λ others. Some (first.0 ∷ others.0, others.1)

-- the batch that the bytes are, if they are one
unfoldable pub spelled_batch : List ℕ → Option (List (List ℕ))
spelled_batch bytes =
    short_at bytes >>= λ n. if nat_lt most_batch n.0 then None else
    transactions_at n.0 n.1 >>= λ x. if length x.1 == 0 then Some x.0 else None

abbrev pub or_none : Option (List (List ℕ)) → List (List ℕ)
or_none None = []
or_none (Some batch) = batch

-- the transactions of the batch that the bytes are, and none where they are no batch
abbrev pub batch_of : List ℕ → List (List ℕ)
batch_of bytes = or_none (spelled_batch bytes)

-- the bytes behind so many transactions
unfoldable pub after_transactions : ℕ → List ℕ → Option (List ℕ)
after_transactions zero bytes = Some bytes
after_transactions (suc count) bytes = transaction_at bytes >>= λ first. after_transactions count first.1

-- the count of the batch that the bytes are
unfoldable pub count_at : List ℕ → Option ℕ
count_at bytes =
    short_at bytes >>= λ n. if nat_lt most_batch n.0 then None else
    after_transactions n.0 n.1 >>= λ rest. if length rest == 0 then Some n.0 else None
