-- Closing epochs one after the other: what is settled, closed and proposed.
use Rattle.std.specs.Prelude.{◌≡◌, ℕ, zero, suc, ◌+◌, ◌<◌, ◌≤◌, Bool, true, false, nat_lt, List, [], ◌∷◌, ◌++◌, take, Option, None, Some, if◌then◌else◌}
use Rattle.hb_base.specs.Numbers.{Numbers}
use Rattle.hb_wire.specs.declared.items.Item.{Item}
use Rattle.hb_wire.specs.declared.vote.Vote.{Vote}
use Rattle.hb_wire.specs.declared.vote.Vote.TheVariants.{Propose, Closed}
use Rattle.hb_wire.specs.Batches.{batch_bytes}
use Rattle.tx_pool.specs.Pool.{PoolView, without}
use Rattle.hb_rules.specs.Pool.{transactions_in}
use Rattle.epoch_core.specs.declared.pending.Pending.{Pending}
use Rattle.epoch_core.specs.declared.table.Table.{Table}
use Rattle.epoch_core.specs.Tables.{list_at}

-- the pool, and the votes that are to be cast
pub record Kept : Type 0 where
  pub pooled : List (List ℕ)
  pub closings : List Vote
  pub proposals : List Vote

abbrev pub kept : PoolView → Pending → Kept
kept pool pending = record { pooled = pool.pooled; closings = pending.closings.items; proposals = pending.proposals.items }

-- the transactions with which a vote closes an epoch
abbrev pub closed_transactions : Vote → List (List ℕ)
closed_transactions (Closed e list) = transactions_in list
closed_transactions _ = []

-- the value of the first proposal by the pool, if it is not cast
abbrev pub first_value : ℕ → List (List ℕ) → Bool → Option (List ℕ)
first_value batch pooled true = None
first_value batch pooled false = Some (batch_bytes (take batch pooled))

-- the proposal for an epoch, if the run has it, by the pool
abbrev pub proposals_after : Numbers → ℕ → List (List ℕ) → List Vote
proposals_after c e pooled = if nat_lt e c.epochs then Propose e (batch_bytes (take c.batch pooled)) ∷ [] else []

-- an epoch is closed with a list: its transactions are settled, and the next epoch gets its proposal
abbrev pub after_closing : Numbers → ℕ → List Item → Kept → Kept
after_closing c e list k =
    let pooled = without (transactions_in list) k.pooled in
    record {
      pooled = pooled;
      closings = k.closings ++ Closed e list ∷ [];
      proposals = k.proposals ++ proposals_after c (e + 1) pooled;
    }

-- it is closed if there is a list
abbrev pub MayClose : Numbers → ℕ → Option (List Item) → Kept → Kept → Bool → Type 0
MayClose c e None old new is_closed = (is_closed ≡ false) × (new ≡ old)
MayClose c e (Some list) old new is_closed = (is_closed ≡ true) × (new ≡ after_closing c e list old)

-- so many epochs are closed, from one on
abbrev pub AreClosed : Numbers → ℕ → List Table → ℕ → ℕ → Kept → Kept → Type 0
AreClosed c i tables from zero old new = new ≡ old
AreClosed c i tables from (suc count) old new =
    (mid : Kept) × (list : List Item) × AreClosed c i tables from count old mid × (list_at c i tables (from + count) ≡ Some list)
    × (new ≡ after_closing c (from + count) list mid)

-- all epochs are closed that can be, from one on
pub record ClosesAll (c : Numbers) (i : ℕ) (tables : List Table) (from to : ℕ) (old new : Kept) : Type 0 where
  pub count : ℕ
  pub reaches : to ≡ from + count
  pub most : to ≤ c.epochs
  pub closed : AreClosed c i tables from count old new
  pub next : to < c.epochs → list_at c i tables to ≡ None
