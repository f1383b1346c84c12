-- How transactions stand.
use Rattle.std.specs.Prelude.{◌≡◌, ℕ, Bool, true, false, List, ◌++◌, map, bytes_eq, Option, None, Some, IsSome, filter, ◌⊎◌, if◌then◌else◌}
use Rattle.std.specs.BTreeMap.{is_at}
use Rattle.std.specs.Cmp.Lexicographic.{slice_cmp}
use Rattle.std.specs.Global.{Global}
use Rattle.std.specs.declared.cmp.Ordering.{Ordering}
use Rattle.std.specs.declared.vec.Vec.{Vec}
use Rattle.std.specs.FinSet.{from_list, items}
use Rattle.std.specs.List.{All, IsDistinct}
use Rattle.std.specs.Map.{lookup}
use Rattle.std.specs.Ordering.{nat_cmp, is_eq}
use Rattle.hb_base.specs.Limits.{IsTransaction}
use Rattle.tx_pool.specs.Marks.{mark}
use Rattle.tx_pool.specs.Pool.{is_among}
use Rattle.tx_pool.specs.declared.standings.First.{First}
use Rattle.tx_pool.specs.declared.standings.Standing.{Standing}
use Rattle.tx_pool.specs.declared.standings.Standing.TheVariants.{Pooled, Settled, Reserved}

-- the transactions with their standings: of each mark the first that came, and apart from these the others
pub record Table : Type 0 where
  pub firsts : List (ℕ × First)
  pub others : List (Vec ℕ Global × Standing)

-- how bytes compare to owned ones
abbrev pub query_cmp : {A : Type 0} → List ℕ → Vec ℕ A → Ordering
query_cmp tx key = slice_cmp nat_cmp tx key.items

abbrev pub first_with : Table → ℕ → Option First
first_with table m = lookup (is_at (nat_cmp m)) table.firsts

abbrev pub other_at : Table → List ℕ → Option Standing
other_at table tx = lookup (is_at (query_cmp tx)) table.others

-- whether the first with its mark is this transaction
abbrev pub is_first : Option First → List ℕ → Bool
is_first None tx = false
is_first (Some first) tx = bytes_eq tx first.tx

-- the standing of the first, where that is this transaction, and else the one among the others
abbrev pub chosen : Option First → List ℕ → Option Standing → Option Standing
chosen None tx other = other
chosen (Some first) tx other = if bytes_eq tx first.tx then Some first.standing else other

-- the same transaction with this standing
abbrev pub with_standing : Standing → First → First
with_standing standing first = record first { standing = standing }

-- how a transaction stands
abbrev pub standing_of : Table → List ℕ → Option Standing
standing_of table tx = chosen (first_with table (mark tx)) tx (other_at table tx)

-- at one mark this is the first now
pub record SetsFirst (old new : Table) (m : ℕ) (first : Option First) : Type 0 where
  pub is : (n : ℕ) → first_with new n ≡ (if is_eq (nat_cmp m n) then first else first_with old n)
  pub others : new.others ≡ old.others

-- one of the others has this standing now
pub record SetsOther (old new : Table) (tx : List ℕ) (standing : Option Standing) : Type 0 where
  pub firsts : new.firsts ≡ old.firsts
  pub is : (other : List ℕ) → other_at new other ≡ (if bytes_eq tx other then standing else other_at old other)

abbrev pub is_pooled : Option Standing → Bool
is_pooled None = false
is_pooled (Some Pooled) = true
is_pooled (Some Settled) = false
is_pooled (Some Reserved) = false

abbrev pub is_settled : Option Standing → Bool
is_settled None = false
is_settled (Some Pooled) = false
is_settled (Some Settled) = true
is_settled (Some Reserved) = false

abbrev pub is_reserved : Option Standing → Bool
is_reserved None = false
is_reserved (Some Pooled) = false
is_reserved (Some Settled) = false
is_reserved (Some Reserved) = true

-- all transactions that have a place
abbrev pub all_of : Table → List (List ℕ)
all_of table = map (λ e. e.1.tx) table.firsts ++ map (λ e. e.0.items) table.others

-- the settled transactions, in the order of their bytes, each once
abbrev pub settled_of : Table → List (List ℕ)
settled_of table = items (from_list {R = slice_cmp nat_cmp} (filter (λ tx. is_settled (standing_of table tx)) (all_of table)))

-- no place is reserved
pub record IsClean (table : Table) : Type 0 where
  pub clean : (tx : List ℕ) → is_reserved (standing_of table tx) ≡ false

-- one transaction has this standing now, and the others have theirs
pub record Sets (old new : Table) (tx : List ℕ) (standing : Option Standing) : Type 0 where
  pub is : (other : List ℕ) → standing_of new other ≡ (if bytes_eq tx other then standing else standing_of old other)

-- all transactions stand as before
pub record Stays (old new : Table) : Type 0 where
  pub is : (tx : List ℕ) → standing_of new tx ≡ standing_of old tx

-- these transactions are settled now, and the others stand as before
pub record Settles (old new : Table) (txs : List (List ℕ)) : Type 0 where
  pub is : (tx : List ℕ) → standing_of new tx ≡ (if is_among txs tx then Some Settled else standing_of old tx)

-- places were reserved for some of these transactions, none of which had a standing; all others stand as before
pub record Reserves (old new : Table) (txs : List (List ℕ)) : Type 0 where
  pub is : (tx : List ℕ) → (standing_of new tx ≡ standing_of old tx)
      ⊎ ((is_among txs tx ≡ true) × (standing_of old tx ≡ None) × (standing_of new tx ≡ Some Reserved))

-- each of these transactions has a standing, so that it can be settled without memory
pub record HaveRoom (table : Table) (txs : List (List ℕ)) : Type 0 where
  pub are_there : (tx : List ℕ) → is_among txs tx ≡ true → IsSome (standing_of table tx)

-- a standing that does not count is none
abbrev pub unreserved : Option Standing → Option Standing
unreserved None = None
unreserved (Some Pooled) = Some Pooled
unreserved (Some Settled) = Some Settled
unreserved (Some Reserved) = None

-- the places that were reserved for these transactions are given back, and all others stand as before
pub record Releases (old new : Table) (txs : List (List ℕ)) : Type 0 where
  pub is : (tx : List ℕ) → standing_of new tx ≡ (if is_among txs tx then unreserved (standing_of old tx) else standing_of old tx)

-- the list has just the transactions that the table has as pooled, each once and within its bounds
pub record IsTied (pooled : List (List ℕ)) (table : Table) : Type 0 where
  pub sound : IsClean table
  pub listed : (tx : List ℕ) → is_among pooled tx ≡ is_pooled (standing_of table tx)
  pub once : IsDistinct bytes_eq pooled
  pub fit : All IsTransaction pooled
