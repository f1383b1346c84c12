-- Where a batch stands in a ledger, and which transactions stand before it.
use Rattle.std.specs.Prelude.{ℕ, ◌≤◌, List, ◌++◌, length, take}
use Rattle.std.specs.List.{flat_map}
use Rattle.hb_wire.specs.Glances.{IsClosedRest}
use Rattle.hb_wire.specs.Lists.{listed}
use Rattle.acs_world.specs.Closed.{Closure}
use Rattle.ledger_text.specs.Text.{transactions_of, closed_transactions}
use Rattle.ledger_text.specs.declared.search.Spot.{Spot}

-- the transactions of the first lists of a ledger
abbrev pub in_lists : List Closure → ℕ → List (List ℕ)
in_lists lists count = flat_map closed_transactions (take count lists)

-- the transactions of the first batches of a list, by what its vote has behind kind and epoch
abbrev pub in_batches : List ℕ → ℕ → List (List ℕ)
in_batches rest count = flat_map transactions_of (take count (listed rest))

-- the transactions before a batch
abbrev pub before_batch : List Closure → Spot → List (List ℕ)
before_batch lists spot = in_lists lists spot.place ++ in_batches spot.rest.now spot.index

-- a list of the ledger, and the batches before one of its batches, or before its end
pub record IsSpot (lists : List Closure) (spot : Spot) : Type 0 where
  pub place : spot.place ≤ length lists
  pub list : IsClosedRest spot.rest.now (listed spot.rest.now)
  pub index : spot.index ≤ length (listed spot.rest.now)
