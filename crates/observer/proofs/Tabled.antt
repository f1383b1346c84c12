-- Tables of claims, and places of lists.
use Rattle.std.proofs.Common.{◌≡◌, ℕ, zero, suc, ◌+◌, ◌<◌, ◌==◌, Bool, true, false, List, [], ◌∷◌, ◌++◌, bytes_eq, length, replicate, slice_index_or, slice_set, unwrap_or, Option, None, Some, if◌then◌else◌, refl, ap, ◌∙◌, arith}
use Rattle.std.specs.BTreeMap.{BTreeMap, get}
use Rattle.std.specs.Cmp.Lexicographic.{slice_cmp}
use Rattle.std.specs.Ordering.{nat_cmp, is_eq}
use Rattle.std.proofs.lemmas.Bool.{eqb-true, eqb-false}
use Rattle.std.proofs.lemmas.List.{length-replicate, length-set, get_or-set_same, get_or-set_other}
use Rattle.std.proofs.lemmas.Map.Text.{is_eq-slice_cmp}
use Rattle.observer.specs.Claims.{Table, no_nodes, nodes_at, Sets}
use Rattle.hb_base.specs.Limits.{most_nodes}
use Rattle.hb_base.specs.Numbers.{Numbers}
use Rattle.observer.specs.Standing.{closes_one, IsSoundView, HasHeard}
use Rattle.observer.proofs.Taken.{heard_none}

-- one set of nodes was put at some bytes
pub sets_inserted : (old new : BTreeMap (List ℕ) (List Bool)) (key bytes : List ℕ) (nodes : List Bool) → key ≡ bytes
    → ((q : List ℕ) → get (slice_cmp nat_cmp) new q ≡ (if is_eq (slice_cmp nat_cmp key q) then Some nodes else get (slice_cmp nat_cmp) old q))
    → Sets old.entries new.entries bytes nodes
sets_inserted old new key bytes nodes same updates = record {
  is = λ other.
      ap (λ (o : Option (List Bool)). unwrap_or o no_nodes) (updates other)
      ∙ ap (λ (b : Bool). unwrap_or (if b then Some nodes else get (slice_cmp nat_cmp) old other) no_nodes)
      (is_eq-slice_cmp key other ∙ ap (λ (k : List ℕ). bytes_eq k other) same)
      ∙ by other (bytes_eq bytes other);
}
  where
    by : (other : List ℕ) (b : Bool) → unwrap_or (if b then Some nodes else get (slice_cmp nat_cmp) old other) no_nodes
        ≡ (if b then nodes else nodes_at old.entries other)
    by other true = refl
    by other false = refl

-- ---- nothing yet

pub replicate_more : {X : Type 0} (k : ℕ) (x : X) → replicate k x ++ x ∷ [] ≡ replicate (k + 1) x
replicate_more {X} k x =
    let next : suc k ≡ k + 1 = omega arith in
    behind k ∙ ap (λ (m : ℕ). replicate m x) next
  where
    behind : (m : ℕ) → replicate m x ++ x ∷ [] ≡ replicate (suc m) x
    behind zero = refl
    behind (suc m) = ap (λ (xs : List X). x ∷ xs) (behind m)

pub blank : {X : Type 0} (k i : ℕ) (x : X) → slice_index_or (replicate k x) i x ≡ x
blank zero i x = refl
blank (suc k) zero x = refl
blank (suc k) (suc i) x = blank k i x

pub sound_new : (c : Numbers) (claims : Table) (taken : List (Option (List ℕ))) (count : ℕ) → taken ≡ replicate count None → count ≡ c.epochs
    → IsSoundView (record { config = c; claims = claims; taken = taken })
sound_new c claims taken count none all = rw none (record {
  places = length-replicate count None ∙ all;
  closed = λ e. ap (closes_one c) (blank count e None);
})

pub heard_new : (c : Numbers) (claims : Table) (taken : List (Option (List ℕ))) (count : ℕ) → claims ≡ [] → taken ≡ replicate count None
    → HasHeard (record { config = c; claims = claims; taken = taken }) []
heard_new c claims taken count empty none = rw (empty, none) (heard_none (record { config = c; claims = []; taken = replicate count None })
    (λ bytes a. blank most_nodes a false) (λ e. blank count e None))

-- ---- one list more

pub sound_set : (c : Numbers) (before after : Table) (taken new : List (Option (List ℕ))) (e : ℕ) (bytes : List ℕ)
    → IsSoundView (record { config = c; claims = before; taken = taken }) → e < c.epochs → new ≡ slice_set taken e (Some bytes)
    → closes_one c (Some bytes) ≡ true → IsSoundView (record { config = c; claims = after; taken = new })
sound_set c before after taken new e bytes sound inside is closes = record {
  places = ap length is ∙ length-set taken e (Some bytes) ∙ sound.places;
  closed = λ i. ap (λ (lists : List (Option (List ℕ))). closes_one c (slice_index_or lists i None)) is ∙ at i (i == e) refl;
}
  where
    at : (i : ℕ) (b : Bool) → (i == e) ≡ b → closes_one c (slice_index_or (slice_set taken e (Some bytes)) i None) ≡ true
    at i true same =
        ap (λ k. closes_one c (slice_index_or (slice_set taken e (Some bytes)) k None)) (eqb-true i e same)
        ∙ ap (closes_one c) (get_or-set_same taken e (Some bytes) None (omega (arith, inside, sound.places))) ∙ closes
    at i false other = ap (closes_one c) (get_or-set_other taken e i (Some bytes) None (eqb-false i e other)) ∙ sound.closed i
