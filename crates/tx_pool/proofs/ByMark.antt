-- Changes among the others, as changes of one standing.
use Rattle.std.proofs.Common.{◌≡◌, ℕ, Bool, true, false, List, Option, None, Some, if◌then◌else◌, refl, ap, ◌∙◌, subst, bytes_eq}
use Rattle.std.specs.BTreeMap.{is_at}
use Rattle.std.specs.Map.{lookup}
use Rattle.std.specs.Ordering.{nat_cmp}
use Rattle.std.proofs.lemmas.Slice.Eq.{bytes_eq-Decides}
use Rattle.tx_pool.specs.Marks.{mark}
use Rattle.tx_pool.specs.Standings.{Table, first_with, other_at, is_first, chosen, standing_of, SetsOther, Sets}
use Rattle.tx_pool.specs.declared.standings.First.{First}
use Rattle.tx_pool.specs.declared.standings.Standing.{Standing}
use Rattle.tx_pool.proofs.Among.{bytes_eq-refl}

-- a transaction that is not the first with its mark stands as the others say
pub chosen-apart : (first : Option First) (tx : List ℕ) (o : Option Standing) → is_first first tx ≡ false → chosen first tx o ≡ o
chosen-apart None tx o apart = refl
chosen-apart (Some first) tx o apart = ap (λ (b : Bool). if b then Some first.standing else o) apart

-- one that has no standing is not the first with its mark
pub apart_from_none : (first : Option First) (tx : List ℕ) (o : Option Standing) → chosen first tx o ≡ None → is_first first tx ≡ false
apart_from_none None tx o none = refl
apart_from_none (Some first) tx o none = by (bytes_eq tx first.tx) none
  where
    by : (b : Bool) → (if b then Some first.standing else o) ≡ None → b ≡ false
    by true h = absurd (cc (h))
    by false h = refl

-- a change among the others
pub sets_by_other : (old new : Table) (tx : List ℕ) (standing : Option Standing) → is_first (first_with old (mark tx)) tx ≡ false
    → SetsOther old new tx standing → Sets old new tx standing
sets_by_other old new tx standing apart sets = record { is = λ other. by other (bytes_eq tx other) refl }
  where
    step : (other : List ℕ) → standing_of new other ≡ chosen (first_with old (mark other)) other (if bytes_eq tx other then standing else other_at old other)
    step other =
        ap (λ (l : List (ℕ × First)). chosen (lookup (is_at (nat_cmp (mark other))) l) other (other_at new other)) sets.firsts
        ∙ ap (λ (o : Option Standing). chosen (first_with old (mark other)) other o) (sets.is other)

    by : (other : List ℕ) (b : Bool) → bytes_eq tx other ≡ b → standing_of new other ≡ (if b then standing else standing_of old other)
    by other true same =
        subst (λ (x : List ℕ). standing_of new x ≡ standing) ((bytes_eq-Decides tx other).0 same)
        (step tx
        ∙ ap (λ (b : Bool). chosen (first_with old (mark tx)) tx (if b then standing else other_at old tx)) (bytes_eq-refl tx)
        ∙ chosen-apart (first_with old (mark tx)) tx standing apart)
    by other false differ = step other ∙ ap (λ (b : Bool). chosen (first_with old (mark other)) other (if b then standing else other_at old other)) differ
