-- What is gathered along a list.
use Rattle.std.proofs.Common.{◌≡◌, ℕ, ◌+◌, ◌<◌, Bool, true, false, List, [], ◌∷◌, ◌++◌, length, map, filter, take, get_or, if◌then◌else◌, refl, sym, ap, ◌∙◌, append-nil}
use Rattle.std.specs.List.{flat_map}
use Rattle.std.proofs.lemmas.List.{take_more}
use Rattle.std.proofs.lemmas.Grind.{flat_map-append}

-- one element more
pub gathered_more : {A B : Type 0} (f : A → List B) (xs : List A) (i : ℕ) (x : A) (before after : List B) → i < length xs → x ≡ get_or xs i x
    → before ≡ flat_map f (take i xs) → after ≡ before ++ f x → after ≡ flat_map f (take (i + 1) xs)
gathered_more f xs i x before after below is so_far more =
    more
    ∙ ap (λ ys. ys ++ f x) so_far
    ∙ ap (λ ys. flat_map f (take i xs) ++ ys) (sym (append-nil (f x)))
    ∙ sym (flat_map-append f (take i xs) (x ∷ []))
    ∙ ap (λ y. flat_map f (take i xs ++ y ∷ [])) is
    ∙ ap (flat_map f) (sym (take_more xs i x below))

-- those that pass a test, each turned by a function
pub kept_is : {A B : Type 0} (test : A → Bool) (f : A → B) (xs : List A)
    → flat_map (λ x. if test x then f x ∷ [] else []) xs ≡ map f (filter test xs)
kept_is test f [] = refl
kept_is test f (x ∷ xs) = by (test x) (kept_is test f xs)
  where
    by : (b : Bool) → flat_map (λ y. if test y then f y ∷ [] else []) xs ≡ map f (filter test xs)
        → (if b then f x ∷ [] else []) ++ flat_map (λ y. if test y then f y ∷ [] else []) xs ≡ map f (if b then x ∷ filter test xs else filter test xs)
    by true rest = ap (λ ys. f x ∷ ys) rest
    by false rest = rest
