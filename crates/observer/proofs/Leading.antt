-- How many epochs an observer's ledger has, and what stands in it.
use Rattle.std.proofs.Common.{◌≡◌, ℕ, zero, suc, ◌+◌, ◌<◌, ◌≤◌, true, false, inl, inr, is_some, List, [], ◌∷◌, length, drop, slice_get, slice_index_or, Option, None, Some, refl, sym, ap, ◌∙◌, subst, arith}
use Rattle.std.specs.Option.{option_and_then, option_map}
use Rattle.std.proofs.lemmas.Bool.{cases_lt, both_ways}
use Rattle.std.proofs.lemmas.Option.{slice_get_cases}
use Rattle.hb_base.specs.Numbers.{Numbers}
use Rattle.hb_wire.specs.declared.items.Item.{Item}
use Rattle.hb_wire.specs.declared.vote.Vote.{Vote}
use Rattle.hb_wire.specs.declared.vote.Vote.TheVariants.{Closed}
use Rattle.hb_wire.specs.Votes.{Spells, spelling}
use Rattle.hb_wire.specs.Glances.{IsClosedRest}
use Rattle.hb_wire.specs.Lists.{listed}
use Rattle.hb_wire.specs.Reading.{vote_at}
use Rattle.hb_wire.proofs.VoteLemmas.{vote_takes}
use Rattle.hb_wire.proofs.GlanceLemmas.{closed_list as read_list}
use Rattle.acs_world.specs.Closed.{Closure, closing}
use Rattle.observer.specs.Standing.{ObserverView, closed_list, list_at, ledger_of, closes_one, IsSoundView}
use Rattle.observer.proofs.Chained.{ends_there, whole_run, no_longer, list_there}

-- ---- places

none_of : {A : Type 0} (o : Option A) → is_some o ≡ false → o ≡ None
none_of None none = refl
none_of (Some x) none = absurd (cc (none))

-- a place has bytes just where its epoch has a list
pub place_list : (o : ObserverView) (e : ℕ) (slot : Option (List ℕ)) → IsSoundView o → slot ≡ slice_index_or o.taken e None
    → is_some slot ≡ is_some (list_at o e)
place_list o e slot sound is = by slot is ∙ ap (λ (s : Option (List ℕ)). is_some (option_and_then (closed_list o.config) s)) is
  where
    by : (s : Option (List ℕ)) → s ≡ slice_index_or o.taken e None → is_some s ≡ is_some (option_and_then (closed_list o.config) s)
    by None is = refl
    by (Some bytes) is = sym (ap (closes_one o.config) is ∙ sound.closed e)

-- ---- epochs

pub some_more : (o : ObserverView) (k : ℕ) → ((d : ℕ) → d < k → is_some (list_at o d) ≡ true) → is_some (list_at o k) ≡ true
    → (d : ℕ) → d < k + 1 → is_some (list_at o d) ≡ true
some_more o k some here d below = elim (cases_lt d k) [
  | inl before ↦ some d before
  | inr past ↦
      let same : k ≡ d = omega (arith, below, past) in
      ap (λ (e : ℕ). is_some (list_at o e)) (sym same) ∙ here
]

pub ledger_ends : (o : ObserverView) (k : ℕ) → k < o.config.epochs → ((d : ℕ) → d < k → is_some (list_at o d) ≡ true)
    → is_some (list_at o k) ≡ false → length (ledger_of o) ≡ k
ledger_ends o k inside some none =
    ends_there (list_at o) 0 o.config.epochs k inside (λ d below.
    let e : 0 + d ≡ d = omega arith in
    ap (λ (m : ℕ). is_some (list_at o m)) e ∙ some d below)
    (let e : 0 + k ≡ k = omega arith in ap (list_at o) e ∙ none_of (list_at o k) none)

pub ledger_whole : (o : ObserverView) (k : ℕ) → k ≡ o.config.epochs → ((d : ℕ) → d < k → is_some (list_at o d) ≡ true)
    → length (ledger_of o) ≡ k
ledger_whole o k all some =
    whole_run (list_at o) 0 o.config.epochs (λ d below.
    let e : 0 + d ≡ d = omega arith in
    ap (λ (m : ℕ). is_some (list_at o m)) e ∙ some d (omega (arith, below, all))) ∙ sym all

pub ledger_short : (o : ObserverView) → length (ledger_of o) ≤ o.config.epochs
ledger_short o = no_longer (list_at o) 0 o.config.epochs

pub ledger_at : (o : ObserverView) (e : ℕ) → e < length (ledger_of o) → slice_get (ledger_of o) e ≡ list_at o e
ledger_at o e inside =
    let same : 0 + e ≡ e = omega arith in
    list_there (list_at o) 0 o.config.epochs e inside ∙ ap (list_at o) same

-- ---- what the bytes in a place are

-- an epoch of the ledger has a list, by these bytes
pub record IsKept (o : ObserverView) (e : ℕ) (bytes : List ℕ) : Type 0 where
  pub list : List Item
  pub is : closed_list o.config bytes ≡ Some list
  pub there : slice_get (ledger_of o) e ≡ Some list

pub kept : (o : ObserverView) (e : ℕ) (bytes : List ℕ) → IsSoundView o → e < length (ledger_of o) → Some bytes ≡ slice_index_or o.taken e None
    → IsKept o e bytes
kept o e bytes sound inside is = by (closed_list o.config bytes) refl
  where
    by : (l : Option (List Item)) → closed_list o.config bytes ≡ l → IsKept o e bytes
    by None none =
        absurd (both_ways (is_some (closed_list o.config bytes)) (ap is_some none) (ap (closes_one o.config) is ∙ sound.closed e))
    by (Some list) some = record {
      list = list;
      is = some;
      there = ledger_at o e inside ∙ ap (option_and_then (closed_list o.config)) (sym is) ∙ some;
    }

-- an epoch of the ledger has bytes
pub not_missing : (o : ObserverView) (e : ℕ) → e < length (ledger_of o) → slice_index_or o.taken e None ≡ None → ⊥
not_missing o e inside none =
    let nothing : slice_get (ledger_of o) e ≡ None = ledger_at o e inside ∙ ap (option_and_then (closed_list o.config)) none in
    absurd (omega (arith, slice_get_none (ledger_of o) e nothing, inside))
  where
    slice_get_none : {X : Type 0} (xs : List X) (i : ℕ) → slice_get xs i ≡ None → length xs ≤ i
    slice_get_none {X} xs i missing = elim (slice_get_cases xs i).1 [
      | inl found ↦ absurd (cc (found.2, missing))
      | inr past ↦ past.0
    ]

-- what stands behind the first two bytes of a vote that closes an epoch
pub record IsRest (bytes : List ℕ) (list : List Item) : Type 0 where
  pub long : 2 ≤ length bytes
  pub shown : IsClosedRest (drop 2 bytes) list
  pub listed_is : listed (drop 2 bytes) ≡ list

spelled_rest : (n version d : ℕ) (bytes : List ℕ) (list : List Item) → Spells n version bytes (Closed d list) → IsRest bytes list
spelled_rest n version d bytes list spells = record { long = long; shown = shown; listed_is = (read_list (drop 2 bytes) list shown).same }
  where
    is : bytes ≡ spelling (Closed d list)
    is = spells.spelled

    long : 2 ≤ length bytes
    long = omega (arith, ap (λ (b : List ℕ). length b) is)

    parts : bytes ≡ 0x12 ∷ d ∷ drop 2 bytes
    parts = is ∙ sym (ap (λ (b : List ℕ). 0x12 ∷ d ∷ drop 2 b) is)

    shown : IsClosedRest (drop 2 bytes) list
    shown = record { n = n; version = version; epoch = d; spells = subst (λ (b : List ℕ). Spells n version b (Closed d list)) parts spells }

pub closed_rest : (c : Numbers) (bytes : List ℕ) (list : List Item) → closed_list c bytes ≡ Some list → IsRest bytes list
closed_rest c bytes list is = by (vote_at c.n c.version bytes) refl is
  where
    by : (o : Option Vote) → vote_at c.n c.version bytes ≡ o
        → option_map (λ (claim : Closure). claim.1) (option_and_then closing o) ≡ Some list → IsRest bytes list
    by None reads is = absurd (cc (is))
    by (Some (Closed d other)) reads is =
        let same : other ≡ list = cc (is) in
        spelled_rest c.n c.version d bytes list
        (subst (λ (l : List Item). Spells c.n c.version bytes (Closed d l)) same (vote_takes c.n c.version bytes (Closed d other) reads))
    by (Some vote) reads is = absurd (cc (is))

-- the default of a read inside a list is not looked at
pub same_default : {X : Type 0} (xs : List X) (i : ℕ) (d other : X) → i < length xs → slice_index_or xs i d ≡ slice_index_or xs i other
same_default [] i d other inside = absurd (omega (arith, inside))
same_default (x ∷ xs) zero d other inside = refl
same_default (x ∷ xs) (suc i) d other inside = same_default xs i d other (omega (arith, inside))

-- the bytes of an epoch of the ledger
pub stored : (o : ObserverView) (e : ℕ) → IsSoundView o → e < length (ledger_of o)
    → (bytes : List ℕ) × (slice_index_or o.taken e None ≡ Some bytes) × IsKept o e bytes
stored o e sound inside = by (slice_index_or o.taken e None) refl
  where
    by : (s : Option (List ℕ)) → slice_index_or o.taken e None ≡ s → (bytes : List ℕ) × (slice_index_or o.taken e None ≡ Some bytes) × IsKept o e bytes
    by None none = absurd (not_missing o e inside none)
    by (Some bytes) is = (bytes, is, kept o e bytes sound inside (sym is))
