-- One epoch is closed, or not, and what so many come to.
use Rattle.std.proofs.Common.{◌≡◌, ℕ, suc, ◌+◌, ◌-◌, ◌<◌, ◌≤◌, Bool, true, false, List, [], ◌∷◌, ◌++◌, length, get_or, Option, None, Some, Result, Ok, Err, IfOk, refl, sym, ap, ◌∙◌, subst, arith}
use Rattle.std.specs.Option.{option_map}
use Rattle.hb_base.specs.Numbers.{Numbers}
use Rattle.hb_wire.specs.declared.items.Item.{Item}
use Rattle.hb_wire.specs.declared.vote.Vote.{Vote}
use Rattle.hb_wire.specs.declared.vote.Vote.TheVariants.{Closed}
use Rattle.tx_pool.specs.Pool.{without}
use Rattle.hb_rules.specs.Pool.{transactions_in}
use Rattle.epoch_core.specs.declared.table.Table.{Table}
use Rattle.acs_core.specs.Subset.{NodeEpoch, node_epoch_of}
use Rattle.epoch_core.specs.declared.table.Table.TheVariants.{Unheard}
use Rattle.epoch_core.specs.Tables.{acs_of, list_of, list_at, ArePlaced}
use Rattle.epoch_core.proofs.Tabled.{table_read}
use Rattle.epoch_core.specs.Closing.{Kept, closed_transactions, proposals_after, after_closing, MayClose, AreClosed, ClosesAll}

-- what an answer holds, where it is one
pub if_ok : {A E : Type 0} (r : Result A E) (P Q : A → Type 0) → ((a : A) → P a → Q a) → IfOk r P → IfOk r Q
if_ok (Ok a) P Q f h = f a h
if_ok (Err e) P Q f h = tt

kept_same : (a b : Kept) → a.pooled ≡ b.pooled → a.closings ≡ b.closings → a.proposals ≡ b.proposals → a ≡ b
kept_same a b pooled closings proposals =
    ap (λ (p : List (List ℕ)). let k : Kept = record { pooled = p; closings = a.closings; proposals = a.proposals } in k) pooled
    ∙ ap (λ (vs : List Vote). let k : Kept = record { pooled = b.pooled; closings = vs; proposals = a.proposals } in k) closings
    ∙ ap (λ (vs : List Vote). let k : Kept = record { pooled = b.pooled; closings = b.closings; proposals = vs } in k) proposals

-- there is no list
pub may_not : (c : Numbers) (e : ℕ) (list : Option (List Item)) (k : Kept) → None ≡ option_map (Closed e) list → MayClose c e list k k false
may_not c e None k none = (refl, refl)
may_not c e (Some list) k none = absurd (cc (none))

-- there is one
pub may_so : (c : Numbers) (e : ℕ) (list : Option (List Item)) (closing : Vote) (old new : Kept) → Some closing ≡ option_map (Closed e) list
    → new.pooled ≡ without (closed_transactions closing) old.pooled → new.closings ≡ old.closings ++ closing ∷ []
    → new.proposals ≡ old.proposals ++ proposals_after c (e + 1) new.pooled → MayClose c e list old new true
may_so c e None closing old new some pooled closings proposals = absurd (cc (some))
may_so c e (Some list) closing old new some pooled closings proposals =
    let is : closing ≡ Closed e list = cc (some) in
    let left : new.pooled ≡ without (transactions_in list) old.pooled = pooled ∙ ap (λ (v : Vote). without (closed_transactions v) old.pooled) is in (
      refl,
      kept_same new (after_closing c e list old) left
          (closings ∙ ap (λ (v : Vote). old.closings ++ v ∷ []) is)
          (proposals ∙ ap (λ (txs : List (List ℕ)). old.proposals ++ proposals_after c (e + 1) txs) left),
    )

by_list : (c : Numbers) (e : ℕ) (list : Option (List Item)) (old new : Kept) → MayClose c e list old new true
    → (l : List Item) × (list ≡ Some l) × (new ≡ after_closing c e l old)
by_list c e None old new may = absurd (cc (may.0))
by_list c e (Some l) old new may = (l, refl, may.1)

stops : (c : Numbers) (e : ℕ) (list : Option (List Item)) (old new : Kept) → MayClose c e list old new false → (list ≡ None) × (new ≡ old)
stops c e None old new may = (refl, may.1)
stops c e (Some l) old new may = absurd (cc (may.0))

one_more : (c : Numbers) (i : ℕ) (tables : List Table) (from count : ℕ) (old mid new : Kept) → AreClosed c i tables from count old mid
    → MayClose c (from + count) (list_at c i tables (from + count)) mid new true → AreClosed c i tables from (suc count) old new
one_more c i tables from count old mid new are may =
    let found = by_list c (from + count) (list_at c i tables (from + count)) mid new may in
    (mid, found.0, are, found.1, found.2)

-- one epoch more is closed
pub closed_more : (c : Numbers) (i : ℕ) (tables : List Table) (from m : ℕ) (old mid new : Kept) → from ≤ m
    → AreClosed c i tables from (m - from) old mid → MayClose c m (list_at c i tables m) mid new true → AreClosed c i tables from (m + 1 - from) old new
closed_more c i tables from m old mid new le are may =
    subst (λ (k : ℕ). AreClosed c i tables from k old new) (let e : suc (m - from) ≡ m + 1 - from = omega arith in e)
    (one_more c i tables from (m - from) old mid new are
    (subst (λ (k : ℕ). MayClose c k (list_at c i tables k) mid new true) (let e : m ≡ from + (m - from) = omega arith in e) may))

-- an epoch is not closed
pub closed_stops : (c : Numbers) (i : ℕ) (tables : List Table) (from m : ℕ) (old mid new : Kept) → from ≤ m → m < c.epochs
    → AreClosed c i tables from (m - from) old mid → MayClose c m (list_at c i tables m) mid new false → ClosesAll c i tables from m old new
closed_stops c i tables from m old mid new le below are may =
    let stop = stops c m (list_at c i tables m) mid new may in
    record {
      count = m - from;
      reaches = omega arith;
      most = omega arith;
      closed = subst (λ (k : Kept). AreClosed c i tables from (m - from) old k) (sym stop.1) are;
      next = λ _. stop.0;
    }

-- all are closed
pub closed_all : (c : Numbers) (i : ℕ) (tables : List Table) (from : ℕ) (old new : Kept) → from ≤ c.epochs
    → AreClosed c i tables from (c.epochs - from) old new → ClosesAll c i tables from c.epochs old new
closed_all c i tables from old new le are = record {
  count = c.epochs - from;
  reaches = omega arith;
  most = omega arith;
  closed = are;
  next = λ below. absurd (omega arith);
}

-- ---- the steps of a loop over the tables

-- what is done by the table that is read is done by the tables
at_read : (c : Numbers) (i : ℕ) (tables : List Table) (e : ℕ) (table : Table) (old new : Kept) (b : Bool) → e < length tables
    → table ≡ get_or tables e table → ArePlaced c i tables
    → ((i : ℕ) → node_epoch_of (acs_of c i e table) ≡ record { config = c; node = i; epoch = e } → MayClose c e (list_of c i e table) old new b)
    → MayClose c e (list_at c i tables e) old new b
at_read c i tables e table old new b below is placed may =
    let read : table ≡ get_or tables e (Unheard false) = table_read tables e table below is in
    subst (λ (t : Table). MayClose c e (list_of c i e t) old new b) read
    (may i (subst (λ (t : Table). let p : NodeEpoch = record { config = c; node = i; epoch = e } in node_epoch_of (acs_of c i e t) ≡ p) (sym read) (placed e)))

pub step_more : (c : Numbers) (i : ℕ) (tables : List Table) (from m : ℕ) (table : Table) (old mid new : Kept) (b : Bool) → from ≤ m → m < length tables
    → table ≡ get_or tables m table → ArePlaced c i tables → b ≡ true → AreClosed c i tables from (m - from) old mid
    → ((i : ℕ) → node_epoch_of (acs_of c i m table) ≡ record { config = c; node = i; epoch = m } → MayClose c m (list_of c i m table) mid new b)
    → AreClosed c i tables from (m + 1 - from) old new
step_more c i tables from m table old mid new b le below is placed closes are may =
    closed_more c i tables from m old mid new le are
    (subst (λ (b : Bool). MayClose c m (list_at c i tables m) mid new b) closes (at_read c i tables m table mid new b below is placed may))

pub step_stops : (c : Numbers) (i : ℕ) (tables : List Table) (from m : ℕ) (table : Table) (old mid new : Kept) (b : Bool) → from ≤ m → m < length tables
    → m < c.epochs → table ≡ get_or tables m table → ArePlaced c i tables → b ≡ false → AreClosed c i tables from (m - from) old mid
    → ((i : ℕ) → node_epoch_of (acs_of c i m table) ≡ record { config = c; node = i; epoch = m } → MayClose c m (list_of c i m table) mid new b)
    → ClosesAll c i tables from m old new
step_stops c i tables from m table old mid new b le below within is placed waits are may =
    closed_stops c i tables from m old mid new le within are
    (subst (λ (b : Bool). MayClose c m (list_at c i tables m) mid new b) waits (at_read c i tables m table mid new b below is placed may))

pub step_all : (c : Numbers) (i : ℕ) (tables : List Table) (from m to : ℕ) (old new : Kept) → from ≤ c.epochs → m ≡ c.epochs → to ≡ c.epochs
    → AreClosed c i tables from (m - from) old new → ClosesAll c i tables from to old new
step_all c i tables from m to old new le all whole are =
    subst (λ (n : ℕ). ClosesAll c i tables from n old new) (sym whole)
    (closed_all c i tables from old new le (subst (λ (m : ℕ). AreClosed c i tables from (m - from) old new) all are))

pub none_closed : (c : Numbers) (i : ℕ) (tables : List Table) (from : ℕ) (k : Kept) → AreClosed c i tables from (from - from) k k
none_closed c i tables from k = subst (λ (n : ℕ). AreClosed c i tables from n k k) (let e : 0 ≡ from - from = omega arith in e) refl
