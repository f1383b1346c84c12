-- What a pool was told, and what it then has.
use Rattle.std.specs.Prelude.{◌≡◌, ℕ, not, List, [], ◌∷◌, ◌++◌, bytes_eq, filter}
use Rattle.tx_pool.specs.Pool.{PoolView, is_among, without}

-- a call on a pool: a submission of one transaction, or a settlement of some
pub data Call : Type 0 where
  Submit : List ℕ → Call
  Settle : List (List ℕ) → Call

-- the transactions that were submitted, in order
abbrev pub submitted_in : List Call → List (List ℕ)
submitted_in [] = []
submitted_in (Submit tx ∷ calls) = tx ∷ submitted_in calls
submitted_in (Settle txs ∷ calls) = submitted_in calls

-- the transactions that a settlement was given
abbrev pub settled_in : List Call → List (List ℕ)
settled_in [] = []
settled_in (Submit tx ∷ calls) = settled_in calls
settled_in (Settle txs ∷ calls) = txs ++ settled_in calls

-- each transaction at its first place
abbrev pub first_places : List (List ℕ) → List (List ℕ)
first_places [] = []
first_places (tx ∷ txs) = tx ∷ filter (λ other. not (bytes_eq tx other)) (first_places txs)

-- The pool of these calls: pooled is the list of the submitted transactions, each at its first place, that no settlement
-- was given; settled are exactly those that a settlement was given.
pub record IsPoolOf (calls : List Call) (pool : PoolView) : Type 0 where
  pub pooled : pool.pooled ≡ without (settled_in calls) (first_places (submitted_in calls))
  pub settled : (tx : List ℕ) → is_among pool.settled tx ≡ is_among (settled_in calls) tx
