-- Lists: what holds of each element, what filters keep, and where results come from.
use Rattle.std.proofs.Common.{◌≡◌, ℕ, zero, suc, ◌<◌, Bool, true, false, ◌||◌, inl, inr, List, [], ◌∷◌, ◌++◌, Contains, Option, None, Some, if◌then◌else◌, refl, sym, ap, ◌∙◌, subst, map, arith, slice_get}
use Rattle.std.specs.List.{list_any, list_all, filter, filter_map, cons_option, AllByRecursion}
use Rattle.std.specs.Option.{option_or, is_some}
use Rattle.std.proofs.lemmas.Bool.{both_ways, and_parts, false_from_ne_true}
use Rattle.std.proofs.lemmas.Option.{slice_get-get_or}
use Rattle.std.proofs.lemmas.List.Elements.{Contains-append_left, Contains-append_right, Contains-append_cases, Contains-push, Contains-push_cases, filter_map-append, All-from_recursion, All-contains}
use Rattle.std.proofs.lemmas.List.Folds.{list_any-from_Any}
use Rattle.hb_rules.specs.Slots.{each, first_of}

-- ---- what holds of each element

pub AllByRecursion-append : {A : Type 0} (P : A → Type 0) (xs ys : List A) → AllByRecursion P xs → AllByRecursion P ys → AllByRecursion P (xs ++ ys)
AllByRecursion-append P [] ys one two = two
AllByRecursion-append P (x ∷ xs) ys one two = (one.0, AllByRecursion-append P xs ys one.1 two)

pub AllByRecursion-parts : {A : Type 0} (P : A → Type 0) (xs ys : List A) → AllByRecursion P (xs ++ ys) → AllByRecursion P xs × AllByRecursion P ys
AllByRecursion-parts P [] ys all = (tt, all)
AllByRecursion-parts P (x ∷ xs) ys all = let rest = AllByRecursion-parts P xs ys all.1 in ((all.0, rest.0), rest.1)

pub AllByRecursion-weaker : {A : Type 0} (P Q : A → Type 0) (xs : List A) → ((x : A) → P x → Q x) → AllByRecursion P xs → AllByRecursion Q xs
AllByRecursion-weaker P Q [] weaker all = tt
AllByRecursion-weaker P Q (x ∷ xs) weaker all = (weaker x all.0, AllByRecursion-weaker P Q xs weaker all.1)

pub AllByRecursion-both : {A : Type 0} (P Q R : A → Type 0) (xs : List A) → ((x : A) → P x → Q x → R x) → AllByRecursion P xs → AllByRecursion Q xs
    → AllByRecursion R xs
AllByRecursion-both P Q R [] both one two = tt
AllByRecursion-both P Q R (x ∷ xs) both one two = (both x one.0 two.0, AllByRecursion-both P Q R xs both one.1 two.1)

pub AllByRecursion-each : {A : Type 0} (P : A → Type 0) (k : ℕ) (f : ℕ → List A) → ((m : ℕ) → m < k → AllByRecursion P (f m))
    → AllByRecursion P (each k f)
AllByRecursion-each P zero f holds = tt
AllByRecursion-each P (suc k) f holds =
    AllByRecursion-append P (each k f) (f k) (AllByRecursion-each P k f (λ m below. holds m (omega arith))) (holds k (omega arith))

pub AllByRecursion-map : {A B : Type 0} (P : B → Type 0) (f : A → B) (xs : List A) → AllByRecursion (λ x. P (f x)) xs → AllByRecursion P (map f xs)
AllByRecursion-map P f [] all = tt
AllByRecursion-map P f (x ∷ xs) all = (all.0, AllByRecursion-map P f xs all.1)

-- what holds of each element holds of one that is contained
pub AllByRecursion-contains : {A : Type 0} (P : A → Type 0) (xs : List A) (x : A) → AllByRecursion P xs → Contains xs x → P x
AllByRecursion-contains P xs x all stands = All-contains P xs x (All-from_recursion P xs all) stands

pub Contains-first : {A : Type 0} (x : A) (xs : List A) → Contains (x ∷ xs) x
Contains-first x xs = Contains-append_left (x ∷ []) xs x (Contains-push [] x)

pub Contains-later : {A : Type 0} (x : A) (xs : List A) (y : A) → Contains xs y → Contains (x ∷ xs) y
Contains-later x xs y stands = Contains-append_right (x ∷ []) xs y stands

-- an element of a list is its first, or one of the rest
pub Contains-cases : {A : Type 0} (x : A) (xs : List A) (y : A) → Contains (x ∷ xs) y → (P : Type 0) → (x ≡ y → P) → (Contains xs y → P) → P
Contains-cases x xs y stands P first later = elim (Contains-append_cases (x ∷ []) xs y stands) [
  | inl here ↦ elim (Contains-push_cases [] x y here) [
    | inl none ↦ absurd (omega (arith, none.1))
    | inr is ↦ first is
  ]
  | inr rest ↦ later rest
]

-- an element stands at some place, and what stands at a place is an element
pub contains_at : {A : Type 0} (xs : List A) (x : A) → Contains xs x → (p : ℕ) × (slice_get xs p ≡ Some x)
contains_at xs x stands = (stands.0, slice_get-get_or xs stands.0 x stands.1 ∙ ap (λ y. Some y) stands.2)

pub at_contains : {A : Type 0} (xs : List A) (p : ℕ) (x : A) → slice_get xs p ≡ Some x → Contains xs x
at_contains [] p x stands = absurd (cc (stands))
at_contains (y ∷ xs) zero x stands = let is : y ≡ x = cc in subst (λ z. Contains (z ∷ xs) x) (sym is) (Contains-first x xs)
at_contains (y ∷ xs) (suc p) x stands = Contains-later y xs x (at_contains xs p x stands)

-- one that passes a test, of a list
pub list_any-from : {A : Type 0} (test : A → Bool) (xs : List A) (x : A) → Contains xs x → test x ≡ true → list_any test xs ≡ true
list_any-from test xs x found passes = list_any-from_Any test xs (found.0, x, found.1, found.2, passes)

-- ---- what filters keep

pub any_within : {A : Type 0} (test q : A → Bool) → ((x : A) → test x ≡ true → q x ≡ true) → (xs : List A)
    → list_any test (filter q xs) ≡ list_any test xs
any_within test q within [] = refl
any_within {A} test q within (x ∷ xs) = by (q x) refl (any_within test q within xs)
  where
    by : (b : Bool) → q x ≡ b → list_any test (filter q xs) ≡ list_any test xs
        → list_any test (if b then x ∷ filter q xs else filter q xs) ≡ (test x || list_any test xs)
    by true kept later = ap (λ rest. test x || rest) later
    by false left later =
        let fails : test x ≡ false = false_from_ne_true (test x) (λ passes. both_ways (q x) left (within x passes)) in
        rw fails later

pub filter_within : {A : Type 0} (p q : A → Bool) → ((x : A) → p x ≡ true → q x ≡ true) → (xs : List A) → filter p (filter q xs) ≡ filter p xs
filter_within p q within [] = refl
filter_within {A} p q within (x ∷ xs) = by (q x) refl (filter_within p q within xs)
  where
    by : (b : Bool) → q x ≡ b → filter p (filter q xs) ≡ filter p xs
        → filter p (if b then x ∷ filter q xs else filter q xs) ≡ (if p x then x ∷ filter p xs else filter p xs)
    by true kept later = ap (λ (rest : List A). if p x then x ∷ rest else rest) later
    by false left later =
        let fails : p x ≡ false = false_from_ne_true (p x) (λ passes. both_ways (q x) left (within x passes)) in
        rw fails later

pub filter-twice : {A : Type 0} (q : A → Bool) (xs : List A) → filter q (filter q xs) ≡ filter q xs
filter-twice q xs = filter_within q q (λ x passes. passes) xs

pub first_within : {A B : Type 0} (f : A → Option B) (q : A → Bool) → ((x : A) → q x ≡ false → f x ≡ None) → (xs : List A)
    → first_of f (filter q xs) ≡ first_of f xs
first_within f q within [] = refl
first_within {A} {B} f q within (x ∷ xs) = by (q x) refl (first_within f q within xs)
  where
    by : (b : Bool) → q x ≡ b → first_of f (filter q xs) ≡ first_of f xs
        → first_of f (if b then x ∷ filter q xs else filter q xs) ≡ option_or (f x) (first_of f xs)
    by true kept later = ap (λ (rest : Option B). option_or (f x) rest) later
    by false left later = let none : f x ≡ None = within x left in rw none later

pub filter_map_within : {A B : Type 0} (f : A → Option B) (q : A → Bool) → ((x : A) → q x ≡ false → f x ≡ None) → (xs : List A)
    → filter_map f (filter q xs) ≡ filter_map f xs
filter_map_within f q within [] = refl
filter_map_within {A} {B} f q within (x ∷ xs) = by (q x) refl (filter_map_within f q within xs)
  where
    by : (b : Bool) → q x ≡ b → filter_map f (filter q xs) ≡ filter_map f xs
        → filter_map f (if b then x ∷ filter q xs else filter q xs) ≡ cons_option (f x) (filter_map f xs)
    by true kept later = ap (λ (rest : List B). cons_option (f x) rest) later
    by false left later = let none : f x ≡ None = within x left in rw none later

-- where all pass one test and none of these passes the other
pub filter_none : {A : Type 0} (made q : A → Bool) → ((x : A) → made x ≡ true → q x ≡ false) → (xs : List A) → list_all made xs ≡ true
    → filter q xs ≡ []
filter_none made q apart [] all = refl
filter_none made q apart (x ∷ xs) all =
    let parts = and_parts (made x) (list_all made xs) all in
    let left : q x ≡ false = apart x parts.0 in
    rw left (filter_none made q apart xs parts.1)

pub filter_all : {A : Type 0} (made q : A → Bool) → ((x : A) → made x ≡ true → q x ≡ true) → (xs : List A) → list_all made xs ≡ true
    → filter q xs ≡ xs
filter_all made q within [] all = refl
filter_all {A} made q within (x ∷ xs) all =
    let parts = and_parts (made x) (list_all made xs) all in
    let kept : q x ≡ true = within x parts.0 in
    rw kept (ap (λ (rest : List A). x ∷ rest) (filter_all made q within xs parts.1))

-- two functions that agree at each element
pub first_agree : {A B : Type 0} (f g : A → Option B) → ((x : A) → f x ≡ g x) → (xs : List A) → first_of f xs ≡ first_of g xs
first_agree f g agree [] = refl
first_agree f g agree (x ∷ xs) = rw (agree x, first_agree f g agree xs) refl

-- ---- where results come from

-- an element of which a function gives a result
pub record IsSource {A B : Type 0} (f : A → Option B) (xs : List A) (y : B) : Type 0 where
  pub element : A
  pub stands : Contains xs element
  pub gives : f element ≡ Some y

source_later : {A B : Type 0} (f : A → Option B) (x : A) (xs : List A) (y : B) → IsSource f xs y → IsSource f (x ∷ xs) y
source_later f x xs y source = record {
  element = source.element;
  stands = Contains-later x xs source.element source.stands;
  gives = source.gives;
}

pub first_source : {A B : Type 0} (f : A → Option B) (xs : List A) (y : B) → first_of f xs ≡ Some y → IsSource f xs y
first_source f [] y h = absurd (cc (h))
first_source {A} {B} f (x ∷ xs) y h = by (f x) refl h (first_source f xs y)
  where
    by : (o : Option B) → f x ≡ o → option_or o (first_of f xs) ≡ Some y → (first_of f xs ≡ Some y → IsSource f xs y) → IsSource f (x ∷ xs) y
    by None gives h later = source_later f x xs y (later h)
    by (Some z) gives h later = record { element = x; stands = Contains-first x xs; gives = gives ∙ h }

pub source_of : {A B : Type 0} (f : A → Option B) (xs : List A) (y : B) → Contains (filter_map f xs) y → IsSource f xs y
source_of f [] y stands = absurd (omega (arith, stands.1))
source_of {A} {B} f (x ∷ xs) y stands = by (f x) refl stands (source_of f xs y)
  where
    by : (o : Option B) → f x ≡ o → Contains (cons_option o (filter_map f xs)) y → (Contains (filter_map f xs) y → IsSource f xs y)
        → IsSource f (x ∷ xs) y
    by None gives stands later = source_later f x xs y (later stands)
    by (Some z) gives stands later =
        Contains-cases z (filter_map f xs) y stands (IsSource f (x ∷ xs) y)
        (λ is. record { element = x; stands = Contains-first x xs; gives = gives ∙ ap Some is })
        (λ rest. source_later f x xs y (later rest))

-- the converse
pub Contains-filter_map : {A B : Type 0} (f : A → Option B) (xs : List A) (x : A) (y : B) → Contains xs x → f x ≡ Some y
    → Contains (filter_map f xs) y
Contains-filter_map f [] x y stands gives = absurd (omega (arith, stands.1))
Contains-filter_map {A} {B} f (z ∷ zs) x y stands gives = by (f z) refl (Contains-filter_map f zs x y)
  where
    by : (o : Option B) → f z ≡ o → (Contains zs x → f x ≡ Some y → Contains (filter_map f zs) y) → Contains (cons_option o (filter_map f zs)) y
    by None none later =
        Contains-cases z zs x stands (Contains (filter_map f zs) y)
        (λ is. absurd (cc (sym none ∙ ap f is ∙ gives)))
        (λ rest. later rest gives)
    by (Some w) some later =
        Contains-cases z zs x stands (Contains (w ∷ filter_map f zs) y)
        (λ is. let same : w ≡ y = cc (some, ap f is, gives) in rw same (Contains-first y (filter_map f zs)))
        (λ rest. Contains-later w (filter_map f zs) y (later rest gives))

-- more elements take no result away
pub kept_stays : {A B : Type 0} (f : A → Option B) (xs more : List A) (y : B) → Contains (filter_map f xs) y
    → Contains (filter_map f (xs ++ more)) y
kept_stays {A} {B} f xs more y stands =
    subst (λ (kept : List B). Contains kept y) (sym (filter_map-append f xs more))
    (Contains-append_left (filter_map f xs) (filter_map f more) y stands)

pub some_if : {A : Type 0} (b : Bool) (x y : A) → (if b then Some x else None) ≡ Some y → (b ≡ true) × (x ≡ y)
some_if true x y h = (refl, cc)
some_if false x y h = absurd (cc (h))

pub none_if_not_some : {A : Type 0} (o : Option A) → is_some o ≡ false → o ≡ None
none_if_not_some None h = refl
none_if_not_some (Some x) h = absurd (cc (h))
