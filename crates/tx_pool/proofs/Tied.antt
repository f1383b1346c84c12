-- The list of a pool and its table go together.
use Rattle.std.proofs.Common.{◌≡◌, ℕ, Bool, true, false, not, ◌&&◌, ◌||◌, List, [], ◌∷◌, ◌++◌, Option, None, Some, is_some, if◌then◌else◌}
use Rattle.std.proofs.Common.{refl, sym, ap, ◌∙◌, bytes_eq, filter}
use Rattle.std.specs.Cmp.Lexicographic.{nat_list_eq_equiv}
use Rattle.std.specs.List.{IsDistinct, AllByRecursion}
use Rattle.std.proofs.Math.Bool.{or-false}
use Rattle.std.proofs.lemmas.List.Elements.{All-nil, All-push, All-filter}
use Rattle.std.proofs.lemmas.Map.Keys.{IsDistinct-push}
use Rattle.std.proofs.lemmas.Slice.Eq.{bytes_eq-Decides}
use Rattle.hb_base.specs.Limits.{IsTransaction}
use Rattle.tx_pool.specs.Pool.{is_known, is_among, without}
use Rattle.tx_pool.specs.Standings.{Table, standing_of, is_settled, is_pooled, is_reserved, settled_of, Sets, Stays, Settles, IsTied}
use Rattle.tx_pool.specs.declared.standings.Standing.{Standing}
use Rattle.tx_pool.specs.declared.standings.Standing.TheVariants.{Pooled, Settled, Reserved}
use Rattle.tx_pool.proofs.Tables.{is_among-settled_of, settled_of-same}
use Rattle.tx_pool.proofs.Among.{is_among-filter, is_among-append, bytes_eq-swap, filter_agree_among}

pub tied_none : IsTied [] (record { firsts = []; others = [] })
unfolding IsDistinct
tied_none = record {
  sound = record { clean = λ tx. refl };
  listed = λ tx. refl;
  once = tt;
  fit = All-nil IsTransaction;
}

-- a new transaction at the end of the list, which stands as pooled
pub tied_push : (pooled : List (List ℕ)) (old new : Table) (tx : List ℕ) → IsTransaction tx → IsTied pooled old → standing_of old tx ≡ None
    → Sets old new tx (Some Pooled)
    → IsTied (pooled ++ tx ∷ []) new
tied_push pooled old new tx fits tied fresh sets = record {
  sound = record {
    clean = λ other. ap is_reserved (sets.is other) ∙ clean (bytes_eq tx other) other;
  };
  listed = λ other. is_among-append pooled (tx ∷ []) other
      ∙ ap (λ (b : Bool). b || (bytes_eq other tx || false)) (tied.listed other)
      ∙ ap (λ (b : Bool). is_pooled (standing_of old other) || (b || false)) (bytes_eq-swap other tx)
      ∙ now (bytes_eq tx other) (standing_of old other)
      ∙ ap is_pooled (sym (sets.is other));
  once = IsDistinct-push nat_list_eq_equiv pooled tx tied.once (tied.listed tx ∙ ap is_pooled fresh);
  fit = All-push IsTransaction pooled tx tied.fit fits;
}
  where
    clean : (b : Bool) (other : List ℕ) → is_reserved (if b then Some Pooled else standing_of old other) ≡ false
    clean true other = refl
    clean false other = tied.sound.clean other

    now : (b : Bool) (o : Option Standing) → (is_pooled o || (b || false)) ≡ is_pooled (if b then Some Pooled else o)
    now true None = refl
    now true (Some Pooled) = refl
    now true (Some Settled) = refl
    now true (Some Reserved) = refl
    now false o = or-false (is_pooled o)

all_filter : (test : List ℕ → Bool) (first : List ℕ) (txs : List (List ℕ)) → AllByRecursion (λ tx. bytes_eq first tx ≡ false) txs
    → AllByRecursion (λ tx. bytes_eq first tx ≡ false) (filter test txs)
all_filter test first [] all = all
all_filter test first (tx ∷ txs) all = by (test tx) (all_filter test first txs all.1)
  where
    by : (b : Bool) → AllByRecursion (λ x. bytes_eq first x ≡ false) (filter test txs)
        → AllByRecursion (λ x. bytes_eq first x ≡ false) (if b then tx ∷ filter test txs else filter test txs)
    by true rest = (all.0, rest)
    by false rest = rest

distinct_filter : (test : List ℕ → Bool) (txs : List (List ℕ)) → IsDistinct bytes_eq txs → IsDistinct bytes_eq (filter test txs)
unfolding IsDistinct
distinct_filter test [] once = once
distinct_filter test (tx ∷ txs) once = by (test tx) (all_filter test tx txs once.0) (distinct_filter test txs once.1)
  where
    by : (b : Bool) → AllByRecursion (λ y. bytes_eq tx y ≡ false) (filter test txs) → IsDistinct bytes_eq (filter test txs)
        → IsDistinct bytes_eq (if b then tx ∷ filter test txs else filter test txs)
    by true all rest = (all, rest)
    by false all rest = rest

-- after a settlement the list without the settled ones goes with the table
pub tied_settle : (pooled : List (List ℕ)) (old new : Table) (txs : List (List ℕ)) → IsTied pooled old → Settles old new txs
    → IsTied (filter (λ tx. is_pooled (standing_of new tx)) pooled) new
tied_settle pooled old new txs tied settles = record {
  sound = record {
    clean = λ tx. ap is_reserved (settles.is tx) ∙ clean (is_among txs tx) tx;
  };
  listed = λ tx. is_among-filter (λ other. is_pooled (standing_of new other)) pooled tx
      ∙ ap (λ (b : Bool). is_pooled (standing_of new tx) && b) (tied.listed tx)
      ∙ ap (λ (o : Option Standing). is_pooled o && is_pooled (standing_of old tx)) (settles.is tx)
      ∙ now (is_among txs tx) tx
      ∙ ap is_pooled (sym (settles.is tx));
  once = distinct_filter (λ tx. is_pooled (standing_of new tx)) pooled tied.once;
  fit = All-filter (λ tx. is_pooled (standing_of new tx)) IsTransaction pooled tied.fit;
}
  where
    clean : (b : Bool) (tx : List ℕ) → is_reserved (if b then Some Settled else standing_of old tx) ≡ false
    clean true tx = refl
    clean false tx = tied.sound.clean tx

    now : (b : Bool) (tx : List ℕ)
        → (is_pooled (if b then Some Settled else standing_of old tx) && is_pooled (standing_of old tx))
        ≡ is_pooled (if b then Some Settled else standing_of old tx)
    now true tx = refl
    now false tx = same (is_pooled (standing_of old tx))
      where
        same : (b : Bool) → (b && b) ≡ b
        same true = refl
        same false = refl

-- what stands as pooled after a settlement is what it was not given
pub filter_is_without : (pooled : List (List ℕ)) (old new : Table) (txs : List (List ℕ)) → IsTied pooled old → Settles old new txs
    → filter (λ tx. is_pooled (standing_of new tx)) pooled ≡ without txs pooled
filter_is_without pooled old new txs tied settles =
    filter_agree_among (λ tx. is_pooled (standing_of new tx)) (λ tx. not (is_among txs tx)) pooled
    (λ tx among. ap is_pooled (settles.is tx) ∙ by (is_among txs tx) (standing_of old tx) (sym (tied.listed tx) ∙ among))
  where
    by : (b : Bool) (o : Option Standing) → is_pooled o ≡ true → is_pooled (if b then Some Settled else o) ≡ not b
    by true o pooled = refl
    by false o pooled = pooled

-- settled are those that were, and those that the settlement was given
pub settled_now : (old new : Table) (txs : List (List ℕ)) (tx : List ℕ) → Settles old new txs
    → is_settled (standing_of new tx) ≡ (is_settled (standing_of old tx) || is_among txs tx)
settled_now old new txs tx settles = ap is_settled (settles.is tx) ∙ by (is_among txs tx) (standing_of old tx)
  where
    by : (b : Bool) (o : Option Standing) → is_settled (if b then Some Settled else o) ≡ (is_settled o || b)
    by true None = refl
    by true (Some Pooled) = refl
    by true (Some Settled) = refl
    by true (Some Reserved) = refl
    by false o = sym (or-false (is_settled o))

-- a pool knows the transactions that have a standing
pub known_is : (pooled : List (List ℕ)) (table : Table) (tx : List ℕ) → IsTied pooled table
    → is_known (record { pooled = pooled; settled = settled_of table }) tx ≡ is_some (standing_of table tx)
known_is pooled table tx tied =
    ap (λ (b : Bool). is_among pooled tx || b) (is_among-settled_of table tx)
    ∙ ap (λ (b : Bool). b || is_settled (standing_of table tx)) (tied.listed tx)
    ∙ by (standing_of table tx) (tied.sound.clean tx)
  where
    by : (o : Option Standing) → is_reserved o ≡ false → (is_pooled o || is_settled o) ≡ is_some o
    by None clean = refl
    by (Some Pooled) clean = refl
    by (Some Settled) clean = refl
    by (Some Reserved) clean = sym clean

pub none_from : (o : Option Standing) → is_some o ≡ false → o ≡ None
none_from None none = refl
none_from (Some standing) none = absurd (cc (none))

-- pooling a new transaction settles none
pub settled_of-push : (pooled : List (List ℕ)) (old new : Table) (tx : List ℕ) → IsTied pooled old → standing_of old tx ≡ None → Sets old new tx (Some Pooled)
    → settled_of new ≡ settled_of old
settled_of-push pooled old new tx tied fresh sets =
    settled_of-same old new (λ other. ap is_settled (sets.is other) ∙ by other (bytes_eq tx other) refl)
  where
    by : (other : List ℕ) (b : Bool) → bytes_eq tx other ≡ b
        → is_settled (if b then Some Pooled else standing_of old other) ≡ is_settled (standing_of old other)
    by other true same = sym (ap (λ (x : List ℕ). is_settled (standing_of old x)) (sym ((bytes_eq-Decides tx other).0 same)) ∙ ap is_settled fresh)
    by other false same = refl

-- a table in which all stand as before goes with the list, and has the same settled ones
pub tied_stays : (pooled : List (List ℕ)) (old new : Table) → IsTied pooled old → Stays old new → IsTied pooled new
tied_stays pooled old new tied stays = record {
  sound = record {
    clean = λ tx. ap is_reserved (stays.is tx) ∙ tied.sound.clean tx;
  };
  listed = λ tx. tied.listed tx ∙ ap is_pooled (sym (stays.is tx));
  once = tied.once;
  fit = tied.fit;
}

pub settled_of-stays : (pooled : List (List ℕ)) (old new : Table) → IsTied pooled old → Stays old new → settled_of new ≡ settled_of old
settled_of-stays pooled old new tied stays = settled_of-same old new (λ tx. ap is_settled (stays.is tx))
