-- What holds of the elements at the same places of two lists.
use Rattle.std.proofs.Common.{◌≡◌, ℕ, zero, suc, List, [], ◌∷◌, length, set, Some, refl, sym, ap, subst, slice_get}
use Rattle.std.specs.List.{AllZip}

pub AllZip-refl : {X : Type 0} (R : X → X → Type 0) → ((x : X) → R x x) → (xs : List X) → AllZip R xs xs
AllZip-refl R same [] = tt
AllZip-refl R same (x ∷ xs) = (same x, AllZip-refl R same xs)

pub AllZip-then : {X : Type 0} (R : X → X → Type 0) → ((x y z : X) → R x y → R y z → R x z) → (xs ys zs : List X) → AllZip R xs ys → AllZip R ys zs → AllZip R xs zs
AllZip-then R next [] [] [] one two = tt
AllZip-then R next [] [] (z ∷ zs) one two = absurd two
AllZip-then R next [] (y ∷ ys) zs one two = absurd one
AllZip-then R next (x ∷ xs) [] zs one two = absurd one
AllZip-then R next (x ∷ xs) (y ∷ ys) [] one two = absurd two
AllZip-then R next (x ∷ xs) (y ∷ ys) (z ∷ zs) one two = (next x y z one.0 two.0, AllZip-then R next xs ys zs one.1 two.1)

pub AllZip-weaker : {X : Type 0} (R S : X → X → Type 0) → ((x y : X) → R x y → S x y) → (xs ys : List X) → AllZip R xs ys → AllZip S xs ys
AllZip-weaker R S weaker [] [] pairs = tt
AllZip-weaker R S weaker [] (y ∷ ys) pairs = absurd pairs
AllZip-weaker R S weaker (x ∷ xs) [] pairs = absurd pairs
AllZip-weaker R S weaker (x ∷ xs) (y ∷ ys) pairs = (weaker x y pairs.0, AllZip-weaker R S weaker xs ys pairs.1)

some_is : {X : Type 0} (x y : X) → Some x ≡ Some y → x ≡ y
some_is x y is = cc (is)

-- one element goes on
pub AllZip-set : {X : Type 0} (R : X → X → Type 0) → ((x y z : X) → R x y → R y z → R x z) → (xs ys : List X) (i : ℕ) (y z : X) → slice_get ys i ≡ Some y
    → AllZip R xs ys → R y z → AllZip R xs (set ys i z)
AllZip-set R next xs [] i y z stands pairs goes = absurd (cc (stands))
AllZip-set R next [] (a ∷ ys) i y z stands pairs goes = absurd pairs
AllZip-set R next (x ∷ xs) (a ∷ ys) zero y z stands pairs goes = (next x a z pairs.0 (subst (λ b. R b z) (sym (some_is a y stands)) goes), pairs.1)
AllZip-set R next (x ∷ xs) (a ∷ ys) (suc i) y z stands pairs goes = (pairs.0, AllZip-set R next xs ys i y z stands pairs.1 goes)

pub AllZip-length : {X : Type 0} (R : X → X → Type 0) (xs ys : List X) → AllZip R xs ys → length ys ≡ length xs
AllZip-length R [] [] pairs = refl
AllZip-length R [] (y ∷ ys) pairs = absurd pairs
AllZip-length R (x ∷ xs) [] pairs = absurd pairs
AllZip-length R (x ∷ xs) (y ∷ ys) pairs = ap suc (AllZip-length R xs ys pairs.1)

-- what stands at the same place of the other list
pub record IsPaired {X : Type 0} (R : X → X → Type 0) (x : X) (ys : List X) (i : ℕ) : Type 0 where
  pub other : X
  pub stands : slice_get ys i ≡ Some other
  pub pair : R x other

pub AllZip-at : {X : Type 0} (R : X → X → Type 0) (xs ys : List X) (i : ℕ) (x : X) → AllZip R xs ys → slice_get xs i ≡ Some x → IsPaired R x ys i
AllZip-at R [] ys i x pairs stands = absurd (cc (stands))
AllZip-at R (a ∷ xs) [] i x pairs stands = absurd pairs
AllZip-at R (a ∷ xs) (y ∷ ys) zero x pairs stands = record { other = y; stands = refl; pair = subst (λ b. R b y) (some_is a x stands) pairs.0 }
AllZip-at R (a ∷ xs) (y ∷ ys) (suc i) x pairs stands =
    let rest = AllZip-at R xs ys i x pairs.1 stands in
    record { other = rest.other; stands = rest.stands; pair = rest.pair }

-- what stood at the same place of the first list
pub record WasPaired {X : Type 0} (R : X → X → Type 0) (xs : List X) (y : X) (i : ℕ) : Type 0 where
  pub other : X
  pub stands : slice_get xs i ≡ Some other
  pub pair : R other y

pub AllZip-was : {X : Type 0} (R : X → X → Type 0) (xs ys : List X) (i : ℕ) (y : X) → AllZip R xs ys → slice_get ys i ≡ Some y → WasPaired R xs y i
AllZip-was R xs [] i y pairs stands = absurd (cc (stands))
AllZip-was R [] (b ∷ ys) i y pairs stands = absurd pairs
AllZip-was R (a ∷ xs) (b ∷ ys) zero y pairs stands = record { other = a; stands = refl; pair = subst (λ z. R a z) (some_is b y stands) pairs.0 }
AllZip-was R (a ∷ xs) (b ∷ ys) (suc i) y pairs stands =
    let rest = AllZip-was R xs ys i y pairs.1 stands in
    record { other = rest.other; stands = rest.stands; pair = rest.pair }
