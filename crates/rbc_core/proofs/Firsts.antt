-- The first result along a list, with one more element.
use Rattle.std.proofs.Common.{◌≡◌, inl, inr, List, [], ◌∷◌, ◌++◌, Contains, Option, None, Some, refl, sym, ap, ◌∙◌, bytes_eq, ℕ, arith}
use Rattle.std.specs.Option.{option_or, option_and_then}
use Rattle.std.proofs.lemmas.Bool.{cases_Bool}
use Rattle.std.proofs.lemmas.Slice.Eq.{bytes_eq-Decides}
use Rattle.hb_wire.specs.declared.vote.Vote.{Vote}
use Rattle.hb_rules.specs.Hearing.{Hearing}
use Rattle.hb_rules.specs.Slots.{first_of}
use Rattle.hb_rules.proofs.Lists.{Contains-cases, first_agree}

pub option_or-none : {B : Type 0} (o : Option B) → option_or o None ≡ o
option_or-none None = refl
option_or-none (Some y) = refl

option_or-twice : {B : Type 0} (o : Option B) → option_or o o ≡ o
option_or-twice None = refl
option_or-twice (Some y) = refl

pub first_of-append : {A B : Type 0} (f : A → Option B) (xs ys : List A) → first_of f (xs ++ ys) ≡ option_or (first_of f xs) (first_of f ys)
first_of-append f [] ys = refl
first_of-append {A} {B} f (x ∷ xs) ys = by (f x) (first_of-append f xs ys)
  where
    by : (o : Option B) → first_of f (xs ++ ys) ≡ option_or (first_of f xs) (first_of f ys)
        → option_or o (first_of f (xs ++ ys)) ≡ option_or (option_or o (first_of f xs)) (first_of f ys)
    by None e = e
    by (Some y) e = refl

-- an element that gives nothing changes nothing
pub first_of-nothing : {A B : Type 0} (f : A → Option B) (xs : List A) (x : A) → f x ≡ None → first_of f (xs ++ x ∷ []) ≡ first_of f xs
first_of-nothing {A} {B} f xs x none =
    first_of-append f xs (x ∷ []) ∙ ap (λ (o : Option B). option_or (first_of f xs) (option_or o None)) none ∙ option_or-none (first_of f xs)

-- where none gave anything, one more is the first
pub first_of-new : {A B : Type 0} (f : A → Option B) (xs : List A) (x : A) → first_of f xs ≡ None → first_of f (xs ++ x ∷ []) ≡ f x
first_of-new {A} {B} f xs x none =
    first_of-append f xs (x ∷ []) ∙ ap (λ (o : Option B). option_or o (option_or (f x) None)) none ∙ option_or-none (f x)

none_parts : {B : Type 0} (o p : Option B) → option_or o p ≡ None → (o ≡ None) × (p ≡ None)
none_parts None p h = (refl, h)
none_parts (Some y) p h = absurd (cc (h))

-- where there is no first, no element gives anything
pub first_none : {A B : Type 0} (f : A → Option B) (xs : List A) → first_of f xs ≡ None → (x : A) → Contains xs x → f x ≡ None
first_none f [] none x stands = absurd (omega (arith, stands.1))
first_none f (y ∷ xs) none x stands =
    let parts = none_parts (f y) (first_of f xs) none in
    Contains-cases y xs x stands (f x ≡ None) (λ is. ap f (sym is) ∙ parts.0) (λ later. first_none f xs parts.1 x later)

-- what a hearing makes by the root that it claims
abbrev pub made_by : (Hearing → Option (List ℕ)) → (List ℕ → Option Vote) → Hearing → Option Vote
made_by claim made h = option_and_then made (claim h)

pick : (old new : List ℕ → Option Vote) (root w : List ℕ) (before after : Option Vote)
    → ((u : List ℕ) → (u ≡ root → ⊥) → new u ≡ old u)
    → option_or (old w) before ≡ None → (before ≡ None → after ≡ new root) → option_or (new w) after ≡ new root
pick old new root w before after same none later =
    let parts = none_parts (old w) before none in
    let is : after ≡ new root = later parts.1 in
    elim (cases_Bool (bytes_eq w root)) [
      | inl equal ↦
          let e : w ≡ root = (bytes_eq-Decides w root).0 equal in
          rw (e, is) (option_or-twice (new root))
      | inr apart ↦
          let nothing : new w ≡ None = same w (λ e. absurd (cc (sym apart ∙ (bytes_eq-Decides w root).1 e))) ∙ parts.0 in
          rw nothing is
    ]

-- The first vote that is made, where none was, what is made changed at one root alone, and that root was named now: it is
-- what this root makes.
pub only_new : (claim : Hearing → Option (List ℕ)) (old new : List ℕ → Option Vote) (heard : List Hearing) (h : Hearing) (root : List ℕ)
    → claim h ≡ Some root → ((w : List ℕ) → (w ≡ root → ⊥) → new w ≡ old w)
    → first_of (made_by claim old) heard ≡ None → first_of (made_by claim new) (heard ++ h ∷ []) ≡ new root
only_new claim old new [] h root names same none = rw names (option_or-none (new root))
only_new claim old new (g ∷ heard) h root names same none = by (claim g) none (only_new claim old new heard h root names same)
  where
    by : (o : Option (List ℕ)) → option_or (option_and_then old o) (first_of (made_by claim old) heard) ≡ None
        → (first_of (made_by claim old) heard ≡ None → first_of (made_by claim new) (heard ++ h ∷ []) ≡ new root)
        → option_or (option_and_then new o) (first_of (made_by claim new) (heard ++ h ∷ [])) ≡ new root
    by None none later = later none
    by (Some w) none later =
        pick old new root w (first_of (made_by claim old) heard) (first_of (made_by claim new) (heard ++ h ∷ [])) same none later

then_agree : (old new : List ℕ → Option Vote) → ((w : List ℕ) → new w ≡ old w) → (o : Option (List ℕ)) → option_and_then new o ≡ option_and_then old o
then_agree old new same None = refl
then_agree old new same (Some w) = same w

-- where nothing changes what is made, and the hearing names no root, the first stays
pub none_new : (claim : Hearing → Option (List ℕ)) (old new : List ℕ → Option Vote) (heard : List Hearing) (h : Hearing)
    → claim h ≡ None → ((w : List ℕ) → new w ≡ old w)
    → first_of (made_by claim new) (heard ++ h ∷ []) ≡ first_of (made_by claim old) heard
none_new claim old new heard h none same =
    first_of-nothing (made_by claim new) heard h (ap (λ (o : Option (List ℕ)). option_and_then new o) none)
    ∙ first_agree (made_by claim new) (made_by claim old) (λ g. then_agree old new same (claim g)) heard
