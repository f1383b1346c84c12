-- Lists whose elements are apart or in order, and what is among them.
use Rattle.std.proofs.Common.{◌≡◌, ◌≢◌, ℕ, zero, suc, inl, inr, List, [], ◌∷◌, ◌++◌, length, map, get_or, slice_get, Some, refl, sym, ap, ap₂, ◌∙◌, subst, arith, length-append}
use Rattle.std.specs.Prelude.{All, Contains}
use Rattle.std.specs.List.{AllPairs}
use Rattle.std.proofs.lemmas.List.Elements.{All-head, All-tail, All-contains, Contains-get_or, Contains-append_left, Contains-append_right, Contains-append_cases}
use Rattle.std.proofs.lemmas.List.Kept.{AllPairs-cons}
use Rattle.hb_rules.proofs.Lists.{Contains-first, Contains-later, Contains-cases, at_contains}
use Rattle.step_driver.proofs.Endings.{Contains-map}

-- ---- elements

-- what holds of each element holds of the list
pub All-from_contains : {A : Type 0} (P : A → Type 0) (xs : List A) → ((x : A) → Contains xs x → P x) → All P xs
All-from_contains P xs each = λ j d within. each (get_or xs j d) (Contains-get_or xs j d within)

pub Contains-none : {A : Type 0} (x : A) → Contains [] x → ⊥
Contains-none x stands = omega (arith, stands.1)

-- where an element of a mapped list comes from
pub record IsImage {A B : Type 0} (f : A → B) (xs : List A) (y : B) : Type 0 where
  pub element : A
  pub stands : Contains xs element
  pub is : f element ≡ y

pub image_of : {A B : Type 0} (f : A → B) (xs : List A) (y : B) → Contains (map f xs) y → IsImage f xs y
image_of f [] y stands = absurd (Contains-none y stands)
image_of f (x ∷ xs) y stands =
    Contains-cases (f x) (map f xs) y stands (IsImage f (x ∷ xs) y)
    (λ is. record { element = x; stands = Contains-first x xs; is = is })
    (λ later. let of = image_of f xs y later in record { element = of.element; stands = Contains-later x xs of.element of.stands; is = of.is })

-- ---- pairs

pub pairs_head : {A : Type 0} (R : A → A → Type 0) (x : A) (xs : List A) → AllPairs R (x ∷ xs) → All (R x) xs
pairs_head R x xs pairs = λ j d within. pairs 0 (suc j) d (omega arith) (omega (arith, within))

pub pairs_tail : {A : Type 0} (R : A → A → Type 0) (x : A) (xs : List A) → AllPairs R (x ∷ xs) → AllPairs R xs
pairs_tail R x xs pairs = λ i j d before within. pairs (suc i) (suc j) d (omega (arith, before)) (omega (arith, within))

pub pairs_none : {A : Type 0} (R : A → A → Type 0) → AllPairs R []
pairs_none R = λ i j d before within. absurd (omega (arith, within))

pub pairs_map : {A B : Type 0} (R : B → B → Type 0) (f : A → B) (xs : List A) → AllPairs (λ x y. R (f x) (f y)) xs → AllPairs R (map f xs)
pairs_map R f [] pairs = pairs_none R
pairs_map R f (x ∷ xs) pairs =
    AllPairs-cons R (f x) (map f xs)
    (All-from_contains (R (f x)) (map f xs) (λ y stands.
    let of = image_of f xs y stands in
    subst (R (f x)) of.is (All-contains (λ z. R (f x) (f z)) xs of.element (pairs_head (λ a b. R (f a) (f b)) x xs pairs) of.stands)))
    (pairs_map R f xs (pairs_tail (λ a b. R (f a) (f b)) x xs pairs))

pub pairs_unmap : {A B : Type 0} (R : B → B → Type 0) (f : A → B) (xs : List A) → AllPairs R (map f xs) → AllPairs (λ x y. R (f x) (f y)) xs
pairs_unmap R f [] pairs = pairs_none (λ x y. R (f x) (f y))
pairs_unmap R f (x ∷ xs) pairs =
    AllPairs-cons (λ a b. R (f a) (f b)) x xs
    (All-from_contains (λ z. R (f x) (f z)) xs (λ z stands. All-contains (R (f x)) (map f xs) (f z) (pairs_head R (f x) (map f xs) pairs) (Contains-map f xs z stands)))
    (pairs_unmap R f xs (pairs_tail R (f x) (map f xs) pairs))

-- of a list that begins another
pub pairs_front : {A : Type 0} (R : A → A → Type 0) (xs ys : List A) → AllPairs R (xs ++ ys) → AllPairs R xs
pairs_front R [] ys pairs = pairs_none R
pairs_front R (x ∷ xs) ys pairs =
    AllPairs-cons R x xs
    (All-from_contains (R x) xs (λ z stands. All-contains (R x) (xs ++ ys) z (pairs_head R x (xs ++ ys) pairs) (Contains-append_left xs ys z stands)))
    (pairs_front R xs ys (pairs_tail R x (xs ++ ys) pairs))

-- two facts of each pair make a third
pub pairs_both : {A : Type 0} (P Q R : A → A → Type 0) (xs : List A) → ((x y : A) → P x y → Q x y → R x y) → AllPairs P xs → AllPairs Q xs → AllPairs R xs
pairs_both P Q R xs both one two = λ i j d before within. both (get_or xs i d) (get_or xs j d) (one i j d before within) (two i j d before within)

-- of two elements at two places
pub pairs_at : {A : Type 0} (R : A → A → Type 0) → ((x y : A) → R x y → R y x) → (xs : List A) (p q : ℕ) (x y : A) → AllPairs R xs
    → slice_get xs p ≡ Some x → slice_get xs q ≡ Some y → p ≢ q → R x y
pairs_at R turned [] p q x y pairs at_p at_q other = absurd (cc (at_p))
pairs_at R turned (z ∷ zs) zero zero x y pairs at_p at_q other = absurd (other refl)
pairs_at R turned (z ∷ zs) zero (suc q) x y pairs at_p at_q other =
    let is : z ≡ x = cc (at_p) in
    subst (λ w. R w y) is (All-contains (R z) zs y (pairs_head R z zs pairs) (at_contains zs q y at_q))
pairs_at R turned (z ∷ zs) (suc p) zero x y pairs at_p at_q other =
    let is : z ≡ y = cc (at_q) in
    turned y x (subst (λ w. R w x) is (All-contains (R z) zs x (pairs_head R z zs pairs) (at_contains zs p x at_p)))
pairs_at R turned (z ∷ zs) (suc p) (suc q) x y pairs at_p at_q other =
    pairs_at R turned zs p q x y (pairs_tail R z zs pairs) at_p at_q (λ is. other (ap suc is))

-- ---- all are there

record IsSplitAt {A : Type 0} (ys : List A) (x : A) : Type 0 where
  front : List A
  back : List A
  is : ys ≡ front ++ x ∷ back

split_at : {A : Type 0} (ys : List A) (x : A) → Contains ys x → IsSplitAt ys x
split_at [] x stands = absurd (Contains-none x stands)
split_at (y ∷ ys) x stands =
    Contains-cases y ys x stands (IsSplitAt (y ∷ ys) x)
    (λ is. record { front = []; back = ys; is = ap (λ z. z ∷ ys) is })
    (λ later. let split = split_at ys x later in record { front = y ∷ split.front; back = split.back; is = ap (λ zs. y ∷ zs) split.is })

-- what stands beside an element, where that is taken out
beside : {A : Type 0} (front back : List A) (x z : A) → x ≢ z → Contains (front ++ x ∷ back) z → Contains (front ++ back) z
beside front back x z other stands = elim (Contains-append_cases front (x ∷ back) z stands) [
  | inl early ↦ Contains-append_left front back z early
  | inr rest ↦ Contains-cases x back z rest (Contains (front ++ back) z) (λ is. absurd (other is)) (λ later. Contains-append_right front back z later)
]

put_back : {A : Type 0} (front back : List A) (x z : A) → Contains (front ++ x ∷ back) z → (P : Type 0) → (x ≡ z → P) → (Contains (front ++ back) z → P) → P
put_back front back x z stands P here other = elim (Contains-append_cases front (x ∷ back) z stands) [
  | inl early ↦ other (Contains-append_left front back z early)
  | inr rest ↦ Contains-cases x back z rest P here (λ later. other (Contains-append_right front back z later))
]

-- Elements of a list, no two of them the same, and as many as the list has: so each of the list is among them.
pub all_there : {A : Type 0} (xs ys : List A) → AllPairs (λ x y. x ≢ y) xs → All (Contains ys) xs → length xs ≡ length ys → (y : A) → Contains ys y → Contains xs y
all_there {A} [] ys apart among same y stands = absurd (omega (arith, stands.1, same))
all_there {A} (x ∷ xs) ys apart among same y stands =
    put_back front back x y (subst (λ zs. Contains zs y) split.is stands) (Contains (x ∷ xs) y)
    (λ is. subst (λ z. Contains (x ∷ xs) z) is (Contains-first x xs))
    (λ other. Contains-later x xs y (all_there xs (front ++ back) (pairs_tail (λ a b. a ≢ b) x xs apart) others fewer y other))
  where
    split : IsSplitAt ys x
    split = split_at ys x (All-head (Contains ys) x xs among)

    front : List A
    front = split.front

    back : List A
    back = split.back

    others : All (Contains (front ++ back)) xs
    others = All-from_contains (Contains (front ++ back)) xs (λ z here.
        beside front back x z (All-contains (λ w. x ≢ w) xs z (pairs_head (λ a b. a ≢ b) x xs apart) here)
        (subst (λ zs. Contains zs z) split.is (All-contains (Contains ys) xs z (All-tail (Contains ys) x xs among) here)))

    fewer : length xs ≡ length (front ++ back)
    fewer = omega (arith, same, ap length split.is, length-append front (x ∷ back), length-append front back)

-- ---- lists in order

-- two lists in a strict order that have the same elements are one
pub same_order : {A : Type 0} (R : A → A → Type 0) → ((x y : A) → R x y → R y x → ⊥) → (xs ys : List A) → AllPairs R xs → AllPairs R ys
    → ((z : A) → Contains xs z → Contains ys z) → ((z : A) → Contains ys z → Contains xs z) → xs ≡ ys
same_order {A} R strict [] [] rise_xs rise_ys there back = refl
same_order {A} R strict [] (y ∷ ys) rise_xs rise_ys there back = absurd (Contains-none y (back y (Contains-first y ys)))
same_order {A} R strict (x ∷ xs) [] rise_xs rise_ys there back = absurd (Contains-none x (there x (Contains-first x xs)))
same_order {A} R strict (x ∷ xs) (y ∷ ys) rise_xs rise_ys there back =
    ap₂ (λ z zs. z ∷ zs) same (same_order R strict xs ys (pairs_tail R x xs rise_xs) (pairs_tail R y ys rise_ys) there_later back_later)
  where
    after_x : All (R x) xs
    after_x = pairs_head R x xs rise_xs

    after_y : All (R y) ys
    after_y = pairs_head R y ys rise_ys

    same : x ≡ y
    same =
        Contains-cases y ys x (there x (Contains-first x xs)) (x ≡ y) sym
        (λ x_later. Contains-cases x xs y (back y (Contains-first y ys)) (x ≡ y) (λ is. is)
        (λ y_later. absurd (strict x y (All-contains (R x) xs y after_x y_later) (All-contains (R y) ys x after_y x_later))))

    there_later : (z : A) → Contains xs z → Contains ys z
    there_later z stands =
        Contains-cases y ys z (there z (Contains-later x xs z stands)) (Contains ys z)
        (λ is.
        let after : R x z = All-contains (R x) xs z after_x stands in
        let before : R z x = subst (λ w. R w x) (same ∙ is) (subst (λ w. R x w) (sym (same ∙ is)) after) in
        absurd (strict x z after before))
        (λ later. later)

    back_later : (z : A) → Contains ys z → Contains xs z
    back_later z stands =
        Contains-cases x xs z (back z (Contains-later y ys z stands)) (Contains xs z)
        (λ is.
        let after : R y z = All-contains (R y) ys z after_y stands in
        let before : R z y = subst (λ w. R w y) (sym same ∙ is) (subst (λ w. R y w) (sym (sym same ∙ is)) after) in
        absurd (strict y z after before))
        (λ later. later)
