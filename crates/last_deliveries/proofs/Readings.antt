-- A list that is read one element after another, and grows meanwhile.
use Rattle.std.proofs.Common.{◌≡◌, ℕ, zero, suc, ◌≤◌, List, [], ◌∷◌, ◌++◌, length, Some, None, refl, sym, ap, ◌∙◌, slice_get, arith, length-append}
use Rattle.std.proofs.lemmas.List.{append-nil, append_assoc}
use Rattle.hb_rules.specs.Ledger.{IsPrefix}

after_front : {A : Type 0} (xs ys : List A) → slice_get (xs ++ ys) (length xs) ≡ slice_get ys 0
after_front [] ys = refl
after_front (x ∷ xs) ys = after_front xs ys

first_is : {A : Type 0} (ys : List A) (y : A) → slice_get ys 0 ≡ Some y → (rest : List A) × (ys ≡ y ∷ rest)
first_is [] y stands = absurd (cc (stands))
first_is (z ∷ ys) y stands =
    let same : z ≡ y = cc (stands) in
    (ys, ap (λ x. x ∷ ys) same)

none_first : {A : Type 0} (ys : List A) → slice_get ys 0 ≡ None → ys ≡ []
none_first [] none = refl
none_first (y ∷ ys) none = absurd (cc (none))

-- the next element was read
pub IsPrefix-read : {A : Type 0} (xs ys : List A) (y : A) → IsPrefix xs ys → Some y ≡ slice_get ys (length xs) → IsPrefix (xs ++ y ∷ []) ys
IsPrefix-read {A} xs ys y front found =
    let there : slice_get ys (length xs) ≡ slice_get front.rest 0 = ap (λ (zs : List A). slice_get zs (length xs)) front.is ∙ after_front xs front.rest in
    let first = first_is front.rest y (sym there ∙ sym found) in
    record {
      rest = first.0;
      is = front.is ∙ ap (λ (zs : List A). xs ++ zs) first.1 ∙ sym (append_assoc xs (y ∷ []) first.0);
    }

-- there is no next element
pub IsPrefix-read_all : {A : Type 0} (xs ys : List A) → IsPrefix xs ys → None ≡ slice_get ys (length xs) → xs ≡ ys
IsPrefix-read_all {A} xs ys front found =
    let there : slice_get ys (length xs) ≡ slice_get front.rest 0 = ap (λ (zs : List A). slice_get zs (length xs)) front.is ∙ after_front xs front.rest in
    let none = none_first front.rest (sym there ∙ sym found) in
    sym (front.is ∙ ap (λ (zs : List A). xs ++ zs) none ∙ append-nil xs)

pub IsPrefix-nil : {A : Type 0} (ys : List A) → IsPrefix [] ys
IsPrefix-nil ys = record { rest = ys; is = refl }

pub IsPrefix-length : {A : Type 0} (xs ys : List A) → IsPrefix xs ys → length xs ≤ length ys
IsPrefix-length {A} xs ys front = omega (arith, ap (λ (zs : List A). length zs) front.is, length-append xs front.rest)

-- a beginning that is as long is the whole
pub IsPrefix-same : {A : Type 0} (xs ys : List A) → IsPrefix xs ys → length ys ≤ length xs → ys ≡ xs
IsPrefix-same {A} xs ys front short =
    let none : length front.rest ≡ 0 = omega (arith, ap (λ (zs : List A). length zs) front.is, length-append xs front.rest) in
    front.is ∙ ap (λ (zs : List A). xs ++ zs) (no_length front.rest none) ∙ append-nil xs
  where
    no_length : (zs : List A) → length zs ≡ 0 → zs ≡ []
    no_length [] none = refl
    no_length (z ∷ zs) none = absurd (omega (arith, none))

-- none behind the end, at a place below the end an element
pub none_past : {A : Type 0} (xs : List A) (k : ℕ) → slice_get xs k ≡ None → length xs ≤ k
none_past [] k none = omega arith
none_past (x ∷ xs) zero none = absurd (cc (none))
none_past (x ∷ xs) (suc k) none = omega (arith, none_past xs k none)
