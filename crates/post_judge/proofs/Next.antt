-- One more of a list.
use Rattle.std.proofs.Common.{◌≡◌, ℕ, ◌+◌, ◌<◌, List, [], ◌∷◌, ◌++◌, length, take, get_or, map, filter_map, Option, None, Some, refl, sym, ap, ◌∙◌, append-nil}
use Rattle.std.specs.List.{flat_map, cons_option}
use Rattle.std.specs.Option.{option_to_list, option_and_then}
use Rattle.std.proofs.lemmas.List.{take_more, get_or-map}
use Rattle.std.proofs.lemmas.List.Concat.{flat_map-append}
use Rattle.std.proofs.lemmas.List.Elements.{filter_map-append}

one_of : {A B : Type 0} (f : A → Option B) (x : A) (o : Option B) → f x ≡ o → filter_map f (x ∷ []) ≡ option_to_list o
one_of f x None is = let e : f x ≡ None = is in rw e refl
one_of f x (Some y) is = let e : f x ≡ Some y = is in rw e refl

chosen_next : {A B : Type 0} (f : A → Option B) (xs : List A) (k : ℕ) (d : A) → k < length xs
    → filter_map f (take k xs) ++ option_to_list (f (get_or xs k d)) ≡ filter_map f (take (k + 1) xs)
chosen_next {A} {B} f xs k d inside =
    let x : A = get_or xs k d in
    ap (λ (ys : List B). filter_map f (take k xs) ++ ys) (sym (one_of f x (f x) refl))
    ∙ sym (filter_map-append f (take k xs) (x ∷ [])) ∙ ap (filter_map f) (sym (take_more xs k d inside))

chosen_one : {B C : Type 0} (g : B → Option C) (o : Option B) (ys : List B) (zs : List C) → zs ≡ filter_map g ys
    → cons_option (option_and_then g o) zs ≡ filter_map g (cons_option o ys)
chosen_one g None ys zs rest = rest
chosen_one g (Some y) ys zs rest = ap (cons_option (g y)) rest

chosen_twice : {A B C : Type 0} (f : A → Option B) (g : B → Option C) (xs : List A)
    → filter_map (λ (x : A). option_and_then g (f x)) xs ≡ filter_map g (filter_map f xs)
chosen_twice f g [] = refl
chosen_twice {A} {B} {C} f g (x ∷ xs) =
    chosen_one g (f x) (filter_map f xs) (filter_map (λ (y : A). option_and_then g (f y)) xs) (chosen_twice f g xs)

-- one more of what is chosen of what was chosen
pub again_next : {A B C : Type 0} (f : A → Option B) (g : B → Option C) (xs : List A) (k : ℕ) (d : A) → k < length xs
    → filter_map g (filter_map f (take k xs)) ++ option_to_list (option_and_then g (f (get_or xs k d)))
    ≡ filter_map g (filter_map f (take (k + 1) xs))
again_next {A} {B} {C} f g xs k d inside =
    ap (λ (ys : List C). ys ++ option_to_list (option_and_then g (f (get_or xs k d)))) (sym (chosen_twice f g (take k xs)))
    ∙ chosen_next (λ (x : A). option_and_then g (f x)) xs k d inside ∙ chosen_twice f g (take (k + 1) xs)

-- what is there of a list
abbrev these : {B : Type 0} (os : List (Option B)) → List B
these os = filter_map (λ o. o) os

these_of : {A B : Type 0} (f : A → Option B) (xs : List A) → these (map f xs) ≡ filter_map f xs
these_of f [] = refl
these_of {A} {B} f (x ∷ xs) = ap (cons_option (f x)) (these_of f xs)

these_all : {B : Type 0} (ys : List B) → these (map Some ys) ≡ ys
these_all [] = refl
these_all {B} (y ∷ ys) = ap (λ (zs : List B). y ∷ zs) (these_all ys)

-- where there is one for each, they are those that are chosen of what was chosen
pub chosen_all : {A B C : Type 0} (f : A → Option B) (g : B → Option C) (xs : List A) (ys : List C)
    → map Some ys ≡ map (λ (x : A). option_and_then g (f x)) xs → ys ≡ filter_map g (filter_map f xs)
chosen_all {A} {B} {C} f g xs ys same =
    sym (these_all ys) ∙ ap these same ∙ these_of (λ (x : A). option_and_then g (f x)) xs ∙ chosen_twice f g xs

-- and each is the one of its element
pub chosen_at : {A B : Type 0} (f : A → Option B) (xs : List A) (ys : List B) (k : ℕ) (d : A) (y : B) → map Some ys ≡ map f xs
    → k < length xs → k < length ys → y ≡ get_or ys k y → f (get_or xs k d) ≡ Some y
chosen_at {A} {B} f xs ys k d y same inside within is =
    sym (get_or-map f xs k d (Some y) inside)
    ∙ ap (λ (os : List (Option B)). get_or os k (Some y)) (sym same)
    ∙ get_or-map Some ys k y (Some y) within ∙ ap Some (sym is)

pub joined_next : {A B : Type 0} (f : A → List B) (xs : List A) (k : ℕ) (d : A) → k < length xs
    → flat_map f (take k xs) ++ f (get_or xs k d) ≡ flat_map f (take (k + 1) xs)
joined_next {A} {B} f xs k d inside =
    ap (λ (ys : List B). flat_map f (take k xs) ++ ys) (sym (append-nil (f (get_or xs k d))))
    ∙ sym (flat_map-append f (take k xs) (get_or xs k d ∷ [])) ∙ ap (flat_map f) (sym (take_more xs k d inside))
