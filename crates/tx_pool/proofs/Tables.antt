-- Tables of standings.
use Rattle.std.proofs.Common.{◌≡◌, ℕ, ◌+◌, ◌<◌, Bool, true, false, ◌&&◌, ◌||◌, List, [], ◌∷◌, map, filter, Option, None, Some, IsSome, is_some}
use Rattle.std.proofs.Common.{unwrap_or, if◌then◌else◌, refl, sym, ap, ◌∙◌, inl, inr, ◌⊎◌, ⊎_elim, bytes_eq, length, take, drop, get_or}
use Rattle.std.proofs.Common.{take-append-drop}
use Rattle.std.specs.Ordering.{nat_cmp, is_eq}
use Rattle.std.specs.Cmp.Lexicographic.{slice_cmp, nat_list_cmp_total}
use Rattle.std.specs.BTreeMap.{is_at}
use Rattle.std.specs.FinSet.{contains, items, from_list, contains-items, contains-from_list, same_set, slice_cmp-IsAntisymmetric, nat_cmp-IsAntisymmetric}
use Rattle.std.specs.Global.{Global}
use Rattle.std.specs.List.{list_any}
use Rattle.std.specs.Map.{lookup}
use Rattle.std.specs.declared.vec.Vec.{Vec}
use Rattle.std.proofs.lemmas.List.Folds.{list_any_more, list_any_at}
use Rattle.std.proofs.lemmas.Map.Text.{is_eq-slice_cmp}
use Rattle.std.proofs.lemmas.Slice.Eq.{bytes_eq-Decides}
use Rattle.tx_pool.specs.Marks.{mark}
use Rattle.tx_pool.specs.Pool.{is_among}
use Rattle.tx_pool.specs.Standings.{Table, query_cmp, first_with, other_at, is_first, standing_of, all_of, is_settled, is_pooled, is_reserved, settled_of}
use Rattle.tx_pool.specs.Standings.{IsClean, Sets, Stays, Settles, Reserves, HaveRoom, unreserved, Releases}
use Rattle.tx_pool.specs.declared.standings.First.{First}
use Rattle.tx_pool.specs.declared.standings.Standing.{Standing}
use Rattle.tx_pool.specs.declared.standings.Standing.TheVariants.{Pooled, Settled, Reserved}
use Rattle.tx_pool.proofs.Among.{is_among-filter, is_among-append, bytes_eq-swap, bytes_eq-refl}
use Rattle.tx_pool.proofs.ByMark.{chosen-apart}

both : (a b : Bool) → b ≡ true → (a || b) ≡ true
both true b e = refl
both false b e = e

-- a transaction that is the first with its mark is among the firsts
first_among : (test : ℕ → Bool) (es : List (ℕ × First)) (tx : List ℕ) → is_first (lookup test es) tx ≡ true
    → is_among (map (λ e. e.1.tx) es) tx ≡ true
first_among test [] tx is = is
first_among test (e ∷ es) tx is = by (test e.0) (first_among test es tx) is
  where
    by : (b : Bool) → (is_first (lookup test es) tx ≡ true → is_among (map (λ e. e.1.tx) es) tx ≡ true)
        → is_first (if b then Some e.1 else lookup test es) tx ≡ true → (bytes_eq tx e.1.tx || is_among (map (λ e. e.1.tx) es) tx) ≡ true
    by true later h = ap (λ (b : Bool). b || is_among (map (λ e. e.1.tx) es) tx) h
    by false later h = both (bytes_eq tx e.1.tx) (is_among (map (λ e. e.1.tx) es) tx) (later h)

-- one that stands among the others is one of them
other_among : (es : List (Vec ℕ Global × Standing)) (tx : List ℕ) → is_some (lookup (is_at (query_cmp tx)) es) ≡ true
    → is_among (map (λ e. e.0.items) es) tx ≡ true
other_among [] tx some = some
other_among (e ∷ es) tx some = by (is_eq (slice_cmp nat_cmp tx e.0.items)) (is_eq-slice_cmp tx e.0.items) (other_among es tx) some
  where
    by : (b : Bool) → b ≡ bytes_eq tx e.0.items
        → (is_some (lookup (is_at (query_cmp tx)) es) ≡ true → is_among (map (λ e. e.0.items) es) tx ≡ true)
        → is_some (if b then Some e.1 else lookup (is_at (query_cmp tx)) es) ≡ true → (bytes_eq tx e.0.items || is_among (map (λ e. e.0.items) es) tx) ≡ true
    by true same later h = ap (λ (b : Bool). b || is_among (map (λ e. e.0.items) es) tx) (sym same)
    by false same later h = both (bytes_eq tx e.0.items) (is_among (map (λ e. e.0.items) es) tx) (later h)

-- a transaction that has a standing is in the table
among_all : (table : Table) (tx : List ℕ) → is_settled (standing_of table tx) ≡ true → is_among (all_of table) tx ≡ true
among_all table tx settled =
    is_among-append (map (λ e. e.1.tx) table.firsts) (map (λ e. e.0.items) table.others) tx
    ∙ by (is_first (first_with table (mark tx)) tx) refl
  where
    some : (o : Option Standing) → is_settled o ≡ true → is_some o ≡ true
    some None h = h
    some (Some standing) h = refl

    by : (b : Bool) → is_first (first_with table (mark tx)) tx ≡ b
        → (is_among (map (λ e. e.1.tx) table.firsts) tx || is_among (map (λ e. e.0.items) table.others) tx) ≡ true
    by true is = ap (λ (b : Bool). b || is_among (map (λ e. e.0.items) table.others) tx) (first_among (is_at (nat_cmp (mark tx))) table.firsts tx is)
    by false apart =
        both (is_among (map (λ e. e.1.tx) table.firsts) tx) (is_among (map (λ e. e.0.items) table.others) tx)
        (other_among table.others tx
        (some (other_at table tx) (ap is_settled (sym (chosen-apart (first_with table (mark tx)) tx (other_at table tx) apart)) ∙ settled)))

same_test : (txs : List (List ℕ)) (tx : List ℕ) → list_any (is_at (slice_cmp nat_cmp tx)) txs ≡ is_among txs tx
same_test [] tx = refl
same_test (first ∷ txs) tx =
    ap (λ (b : Bool). b || list_any (is_at (slice_cmp nat_cmp tx)) txs) (is_eq-slice_cmp tx first)
    ∙ ap (λ (b : Bool). bytes_eq tx first || b) (same_test txs tx)

settled_list : Table → List (List ℕ)
settled_list table = filter (λ tx. is_settled (standing_of table tx)) (all_of table)

among-settled_list : (table : Table) (tx : List ℕ) → is_among (settled_list table) tx ≡ is_settled (standing_of table tx)
unfolding settled_list
among-settled_list table tx =
    is_among-filter (λ other. is_settled (standing_of table other)) (all_of table) tx
    ∙ by (is_settled (standing_of table tx)) (among_all table tx)
  where
    by : (b : Bool) → (b ≡ true → is_among (all_of table) tx ≡ true) → (b && is_among (all_of table) tx) ≡ b
    by true h = h refl
    by false h = refl

contains_settled : (table : Table) (tx : List ℕ) → contains (from_list {R = slice_cmp nat_cmp} (settled_list table)) tx ≡ is_settled (standing_of table tx)
contains_settled table tx =
    contains-from_list nat_list_cmp_total (settled_list table) tx ∙ same_test (settled_list table) tx ∙ among-settled_list table tx

-- the settled ones are those that stand as settled
pub is_among-settled_of : (table : Table) (tx : List ℕ) → is_among (settled_of table) tx ≡ is_settled (standing_of table tx)
unfolding settled_list
is_among-settled_of table tx =
    sym (same_test (settled_of table) tx)
    ∙ sym (contains-items (from_list {R = slice_cmp nat_cmp} (settled_list table)) tx)
    ∙ contains_settled table tx

-- tables in which the same transactions are settled have the same list of settled ones
pub settled_of-same : (old new : Table) → ((tx : List ℕ) → is_settled (standing_of new tx) ≡ is_settled (standing_of old tx)) → settled_of new ≡ settled_of old
unfolding settled_list
settled_of-same old new same =
    ap items (same_set nat_list_cmp_total (slice_cmp-IsAntisymmetric nat_cmp-IsAntisymmetric)
    (from_list {R = slice_cmp nat_cmp} (settled_list new)) (from_list {R = slice_cmp nat_cmp} (settled_list old))
    (λ tx. contains_settled new tx ∙ same tx ∙ sym (contains_settled old tx)))

no_members : (txs : List (List ℕ)) → ((tx : List ℕ) → is_among txs tx ≡ false) → txs ≡ []
no_members [] none = refl
no_members (tx ∷ txs) none = absurd (cc (sym (ap (λ (b : Bool). b || is_among txs tx) (bytes_eq-refl tx)), none tx))

pub settled_of-none : settled_of (record { firsts = []; others = [] }) ≡ []
settled_of-none = no_members (settled_of (record { firsts = []; others = [] })) (λ tx. is_among-settled_of (record { firsts = []; others = [] }) tx)

-- no transaction is both pooled and settled
pub pooled_or_settled : (o : Option Standing) → is_pooled o ≡ true → is_settled o ≡ false
pooled_or_settled None pooled = refl
pooled_or_settled (Some Pooled) pooled = refl
pooled_or_settled (Some Settled) pooled = sym pooled
pooled_or_settled (Some Reserved) pooled = refl

-- Table by table, as a loop goes over transactions.

among_more : (txs : List (List ℕ)) (i : ℕ) (tx other : List ℕ) → i < length txs → tx ≡ get_or txs i tx
    → is_among (take (i + 1) txs) other ≡ (is_among (take i txs) other || bytes_eq tx other)
among_more txs i tx other within item =
    list_any_more (bytes_eq other) txs i tx within
    ∙ ap (λ (x : List ℕ). is_among (take i txs) other || bytes_eq other x) (sym item)
    ∙ ap (λ (b : Bool). is_among (take i txs) other || b) (bytes_eq-swap other tx)

pub among_item : (txs : List (List ℕ)) (i : ℕ) (tx : List ℕ) → i < length txs → tx ≡ get_or txs i tx → is_among txs tx ≡ true
among_item txs i tx within item = list_any_at (bytes_eq tx) txs i tx within (ap (λ (x : List ℕ). bytes_eq tx x) (sym item) ∙ bytes_eq-refl tx)

pub among_take : (txs : List (List ℕ)) (i : ℕ) (tx : List ℕ) → is_among (take i txs) tx ≡ true → is_among txs tx ≡ true
among_take txs i tx among =
    ap (λ (l : List (List ℕ)). is_among l tx) (sym (take-append-drop i txs))
    ∙ is_among-append (take i txs) (drop i txs) tx
    ∙ ap (λ (b : Bool). b || is_among (drop i txs) tx) among

pub settles_none : (table : Table) → Settles table table []
settles_none table = record { is = λ tx. refl }

pub settles_more : (old mid new : Table) (txs : List (List ℕ)) (i : ℕ) (tx : List ℕ) → i < length txs → tx ≡ get_or txs i tx
    → Settles old mid (take i txs) → Sets mid new tx (Some Settled) → Settles old new (take (i + 1) txs)
settles_more old mid new txs i tx within item settles sets = record {
  is = λ other. sets.is other
      ∙ ap (λ (o : Option Standing). if bytes_eq tx other then Some Settled else o) (settles.is other)
      ∙ by (bytes_eq tx other) (is_among (take i txs) other) (standing_of old other)
      ∙ ap (λ (b : Bool). if b then Some Settled else standing_of old other) (sym (among_more txs i tx other within item));
}
  where
    by : (same among : Bool) (o : Option Standing)
        → (if same then Some Settled else (if among then Some Settled else o)) ≡ (if among || same then Some Settled else o)
    by true true o = refl
    by true false o = refl
    by false true o = refl
    by false false o = refl

-- a transaction that has room has a standing, also after others were settled
pub room_now : (old mid : Table) (txs some : List (List ℕ)) (tx : List ℕ) → HaveRoom old txs → Settles old mid some → is_among txs tx ≡ true
    → IsSome (standing_of mid tx)
room_now old mid txs some tx room settles among =
    ap is_some (settles.is tx) ∙ by (is_among some tx) (standing_of old tx) (room.are_there tx among)
  where
    by : (b : Bool) (o : Option Standing) → IsSome o → is_some (if b then Some Settled else o) ≡ true
    by true o there = refl
    by false o there = there

pub releases_none : (table : Table) → Releases table table []
releases_none table = record { is = λ tx. refl }

pub releases_more : (old mid new : Table) (txs : List (List ℕ)) (i : ℕ) (tx : List ℕ) → i < length txs → tx ≡ get_or txs i tx
    → Releases old mid (take i txs) → Sets mid new tx (unreserved (standing_of mid tx)) → Releases old new (take (i + 1) txs)
releases_more old mid new txs i tx within item releases sets = record {
  is = λ other. sets.is other
      ∙ here other (bytes_eq tx other) refl
      ∙ ap (λ (o : Option Standing). if bytes_eq tx other then unreserved o else o) (releases.is other)
      ∙ by (bytes_eq tx other) (is_among (take i txs) other) (standing_of old other)
      ∙ ap (λ (b : Bool). if b then unreserved (standing_of old other) else standing_of old other) (sym (among_more txs i tx other within item));
}
  where
    here : (other : List ℕ) (b : Bool) → bytes_eq tx other ≡ b
        → (if b then unreserved (standing_of mid tx) else standing_of mid other) ≡ (if b then unreserved (standing_of mid other) else standing_of mid other)
    here other true same = ap (λ (x : List ℕ). unreserved (standing_of mid x)) ((bytes_eq-Decides tx other).0 same)
    here other false same = refl

    twice : (o : Option Standing) → unreserved (unreserved o) ≡ unreserved o
    twice None = refl
    twice (Some Pooled) = refl
    twice (Some Settled) = refl
    twice (Some Reserved) = refl

    by : (same among : Bool) (o : Option Standing)
        → (if same then unreserved (if among then unreserved o else o) else (if among then unreserved o else o)) ≡ (if among || same then unreserved o else o)
    by true true o = twice o
    by true false o = refl
    by false true o = refl
    by false false o = refl

pub reserves_none : (table : Table) → Reserves table table []
reserves_none table = record { is = λ tx. inl refl }

pub reserves_more : (old mid new : Table) (txs : List (List ℕ)) (i : ℕ) (tx : List ℕ) → i < length txs → tx ≡ get_or txs i tx
    → Reserves old mid (take i txs) → Sets mid new tx (Some (unwrap_or (standing_of mid tx) Reserved)) → Reserves old new (take (i + 1) txs)
reserves_more old mid new txs i tx within item reserves sets = record {
  is = λ other. by other (bytes_eq tx other) refl (standing_of mid other) refl (reserves.is other);
}
  where
    among_now : (other : List ℕ) (b : Bool) → (is_among (take i txs) other || bytes_eq tx other) ≡ b → is_among (take (i + 1) txs) other ≡ b
    among_now other b e = among_more txs i tx other within item ∙ e

    more : (other : List ℕ) → is_among (take i txs) other ≡ true → is_among (take (i + 1) txs) other ≡ true
    more other among = among_now other true (ap (λ (b : Bool). b || bytes_eq tx other) among)

    new_is : (other : List ℕ) (b : Bool) → bytes_eq tx other ≡ b
        → standing_of new other ≡ (if b then Some (unwrap_or (standing_of mid other) Reserved) else standing_of mid other)
    new_is other true same = sets.is other ∙ ap (λ (b : Bool). if b then Some (unwrap_or (standing_of mid tx) Reserved) else standing_of mid other) same
        ∙ ap (λ (x : List ℕ). Some (unwrap_or (standing_of mid x) Reserved)) ((bytes_eq-Decides tx other).0 same)
    new_is other false same = sets.is other ∙ ap (λ (b : Bool). if b then Some (unwrap_or (standing_of mid tx) Reserved) else standing_of mid other) same

    by : (other : List ℕ) (b : Bool) → bytes_eq tx other ≡ b → (o : Option Standing) → standing_of mid other ≡ o
        → (standing_of mid other ≡ standing_of old other)
        ⊎ ((is_among (take i txs) other ≡ true) × (standing_of old other ≡ None) × (standing_of mid other ≡ Some Reserved))
        → (standing_of new other ≡ standing_of old other)
        ⊎ ((is_among (take (i + 1) txs) other ≡ true) × (standing_of old other ≡ None) × (standing_of new other ≡ Some Reserved))
    by other false same o e (inl stays) = inl (new_is other false same ∙ stays)
    by other false same o e (inr h) = inr (more other h.0, h.1, new_is other false same ∙ h.2)
    by other true same (Some s) e (inl stays) = inl (new_is other true same ∙ ap (λ (p : Option Standing). Some (unwrap_or p Reserved)) e ∙ sym e ∙ stays)
    by other true same (Some s) e (inr h) = inr (more other h.0, h.1, new_is other true same ∙ ap (λ (p : Option Standing). Some (unwrap_or p Reserved)) h.2)
    by other true same None e (inl stays) =
        inr (
          among_now other true (both (is_among (take i txs) other) (bytes_eq tx other) same),
          sym stays ∙ e,
          new_is other true same
              ∙ ap (λ (p : Option Standing). Some (unwrap_or p Reserved)) e,
        )
    by other true same None e (inr h) = absurd (cc (sym e ∙ h.2))

pub have_room_none : (table : Table) → HaveRoom table []
have_room_none table = record { are_there = λ tx among. absurd (cc (among)) }

pub have_room_more : (mid new : Table) (txs : List (List ℕ)) (i : ℕ) (tx : List ℕ) → i < length txs → tx ≡ get_or txs i tx
    → HaveRoom mid (take i txs) → Sets mid new tx (Some (unwrap_or (standing_of mid tx) Reserved)) → HaveRoom new (take (i + 1) txs)
have_room_more mid new txs i tx within item room sets = record {
  are_there = λ other among. ap is_some (sets.is other) ∙ by other (bytes_eq tx other) refl (sym (among_more txs i tx other within item) ∙ among);
}
  where
    by : (other : List ℕ) (b : Bool) → bytes_eq tx other ≡ b → (is_among (take i txs) other || bytes_eq tx other) ≡ true
        → is_some (if b then Some (unwrap_or (standing_of mid tx) Reserved) else standing_of mid other) ≡ true
    by other true same among = refl
    by other false same among = room.are_there other (first (is_among (take i txs) other) (bytes_eq tx other) same among)
      where
        first : (a b : Bool) → b ≡ false → (a || b) ≡ true → a ≡ true
        first true b e h = refl
        first false b e h = absurd (cc (sym e ∙ h))

pub reserves_all : (old new : Table) (txs : List (List ℕ)) (i : ℕ) → Reserves old new (take i txs) → Reserves old new txs
reserves_all old new txs i reserves = record {
  is = λ tx. ⊎_elim (λ same. inl same) (λ h. inr (among_take txs i tx h.0, h.1, h.2)) (reserves.is tx);
}

-- what was reserved for transactions is settled with them
pub settles_reserved : (old mid new : Table) (txs : List (List ℕ)) → Reserves old mid txs → Settles mid new txs → Settles old new txs
settles_reserved old mid new txs reserves settles = record {
  is = λ tx. settles.is tx ∙ by tx (is_among txs tx) refl (reserves.is tx);
}
  where
    by : (tx : List ℕ) (b : Bool) → is_among txs tx ≡ b
        → (standing_of mid tx ≡ standing_of old tx) ⊎ ((is_among txs tx ≡ true) × (standing_of old tx ≡ None) × (standing_of mid tx ≡ Some Reserved))
        → (if b then Some Settled else standing_of mid tx) ≡ (if b then Some Settled else standing_of old tx)
    by tx true e h = refl
    by tx false e (inl stays) = stays
    by tx false e (inr h) = absurd (cc (sym e ∙ h.0))

-- what was reserved for transactions is given back with them
pub stays_released : (old mid new : Table) (txs : List (List ℕ)) → IsClean old → Reserves old mid txs → Releases mid new txs → Stays old new
stays_released old mid new txs sound reserves releases = record {
  is = λ tx. releases.is tx ∙ by tx (is_among txs tx) refl (reserves.is tx);
}
  where
    plain : (o : Option Standing) → is_reserved o ≡ false → unreserved o ≡ o
    plain None clean = refl
    plain (Some Pooled) clean = refl
    plain (Some Settled) clean = refl
    plain (Some Reserved) clean = absurd (cc (clean))

    by : (tx : List ℕ) (b : Bool) → is_among txs tx ≡ b
        → (standing_of mid tx ≡ standing_of old tx) ⊎ ((is_among txs tx ≡ true) × (standing_of old tx ≡ None) × (standing_of mid tx ≡ Some Reserved))
        → (if b then unreserved (standing_of mid tx) else standing_of mid tx) ≡ standing_of old tx
    by tx true e (inl stays) = ap unreserved stays ∙ plain (standing_of old tx) (sound.clean tx)
    by tx false e (inl stays) = stays
    by tx true e (inr h) = ap unreserved h.2 ∙ sym h.1
    by tx false e (inr h) = absurd (cc (sym e ∙ h.0))
