-- The transaction pool as contracts see it.
use Rattle.std.specs.Prelude.{ℕ, Bool, not, ◌||◌, List, bytes_eq, filter}
use Rattle.std.specs.List.{list_any}

-- the pooled transactions, in the order in which they came, and the settled ones
pub record PoolView : Type 0 where
  pub pooled : List (List ℕ)
  pub settled : List (List ℕ)

-- whether these bytes are among the transactions
abbrev pub is_among : List (List ℕ) → List ℕ → Bool
is_among txs tx = list_any (bytes_eq tx) txs

-- whether these bytes are pooled or settled
abbrev pub is_known : PoolView → List ℕ → Bool
is_known pool tx = is_among pool.pooled tx || is_among pool.settled tx

-- the transactions that are not among those that have gone, in order
abbrev pub without : List (List ℕ) → List (List ℕ) → List (List ℕ)
without gone txs = filter (λ tx. not (is_among gone tx)) txs
