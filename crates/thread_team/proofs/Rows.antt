-- Lists that are gone through from the front.
use Rattle.std.proofs.Common.{◌≡◌, ℕ, Bool, true, false, ◌||◌, List, [], ◌∷◌, ◌++◌, length, take, drop, get_or, All, sym, ap, ◌∙◌, subst, arith, append_assoc, length-append}
use Rattle.std.specs.Prelude.{insert}
use Rattle.std.proofs.Math.Seq.{get_or-append_seam}
use Rattle.std.proofs.lemmas.List.{append-nil, nil_from_length}
use Rattle.std.proofs.lemmas.List.Elements.{All-append, All-cons, All-take, All-drop}

-- one element more was gone through
pub gone_on : {A : Type 0} (gone rest next all : List A) (x : A) → rest ≡ x ∷ next → gone ++ rest ≡ all → (gone ++ x ∷ []) ++ next ≡ all
gone_on gone rest next all x is split = append_assoc gone (x ∷ []) next ∙ ap (λ xs. gone ++ xs) (sym is) ∙ split

-- what holds of each element holds of the next
pub next_has : {A : Type 0} (P : A → Type 0) (gone rest next all : List A) (x : A) → rest ≡ x ∷ next → gone ++ rest ≡ all → All P all → P x
next_has P gone rest next all x is split each =
    let whole : gone ++ x ∷ next ≡ all = ap (λ xs. gone ++ xs) (sym is) ∙ split in
    subst P (ap (λ xs. get_or xs (length gone) x) (sym whole) ∙ get_or-append_seam gone x next x)
    (each (length gone) x (omega (arith, ap length whole, length-append gone (x ∷ next))))

-- all were gone through
pub all_gone : {A : Type 0} (gone rest all : List A) → length rest ≡ 0 → gone ++ rest ≡ all → gone ≡ all
all_gone gone rest all none split = sym (append-nil gone) ∙ ap (λ xs. gone ++ xs) (sym (nil_from_length rest none)) ∙ split

pub All-insert : {A : Type 0} (P : A → Type 0) (xs : List A) (k : ℕ) (x : A) → All P xs → P x → All P (insert xs k x)
All-insert P xs k x each here = All-append P (take k xs) (x ∷ drop k xs) (All-take P k xs each) (All-cons P x (drop k xs) here (All-drop P k xs each))

-- ---- sets of actors

-- with those of another set, an actor of the old set is in the new one
pub stays_marked : (more old new : Bool) → new ≡ (more || old) → old ≡ true → new ≡ true
stays_marked true old new is was = is
stays_marked false old new is was = is ∙ was
