-- Which transactions a desk proposes.
use Rattle.std.specs.Prelude.{ℕ, Bool, false, not, ◌&&◌, nat_lt, List, take, filter}
use Rattle.std.specs.List.{list_any, flat_map}
use Rattle.hb_base.specs.Numbers.{Numbers}
use Rattle.tx_pool.specs.Pool.{is_among}
use Rattle.tx_pool.specs.Calls.{first_places}
use Rattle.hb_wire.specs.declared.items.Item.{Item}
use Rattle.hb_wire.specs.declared.vote.Vote.{Vote}
use Rattle.hb_wire.specs.declared.vote.Vote.TheVariants.{Closed}
use Rattle.hb_wire.specs.Batches.{batch_of, batch_bytes}

-- the transactions of the batches of a closed list, in order
abbrev pub transactions_in : List Item → List (List ℕ)
transactions_in list = flat_map (λ item. batch_of item.value) list

-- whether a vote closes an epoch below e with this transaction
abbrev pub settles_below : ℕ → List ℕ → Vote → Bool
settles_below e tx (Closed d list) = nat_lt d e && is_among (transactions_in list) tx
settles_below e tx _ = false

-- The value of the proposal of epoch e: the batch of the first `batch` transactions, or all, of those that were submitted
-- at the node and that none of its closed lists below e has, each taken once.
abbrev pub pool_value : Numbers → List (List ℕ) → ℕ → List Vote → List ℕ
pool_value c submitted e own =
    batch_bytes (take c.batch (filter (λ tx. not (list_any (settles_below e tx) own)) (first_places submitted)))
