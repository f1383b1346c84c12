-- Actors of another set that are added one after another.
use Rattle.std.proofs.Common.{◌≡◌, ℕ, ◌+◌, ◌==◌, ◌&&◌, ◌||◌, Bool, true, false, nat_lt, refl, arith}
use Rattle.std.proofs.lemmas.Bool.Decides.{nat_tests}

-- below one more: there, or below
pub below_or_at : (i k : ℕ) → nat_lt i (k + 1) ≡ ((i == k) || nat_lt i k)
below_or_at i k = grind (arith, nat_tests)

-- e: the actor is of this node; a: it has this number; b: it is of a node before; o: it is in the other set; w: it was in the set
pub one_noted : (e a b o w : Bool) → (e ≡ true → a ≡ true → o ≡ true) → ((e && a) || (((a && b) && o) || w)) ≡ (((a && (e || b)) && o) || w)
one_noted true true b o w is = rw (is refl refl) refl
one_noted true false b o w is = refl
one_noted false a b o w is = refl

pub none_noted : (e a b o w : Bool) → (e ≡ true → a ≡ true → o ≡ false) → (((a && b) && o) || w) ≡ (((a && (e || b)) && o) || w)
none_noted true true b o w is = rw (is refl refl) (none b)
  where
    none : (b : Bool) → ((b && false) || w) ≡ w
    none true = refl
    none false = refl
none_noted true false b o w is = refl
none_noted false a b o w is = refl

pub and_true : (a : Bool) → (a && true) ≡ a
and_true true = refl
and_true false = refl

pub and_false : (a : Bool) → (a && false) ≡ false
and_false true = refl
and_false false = refl

-- e: the actor has this number; b: a lower one
pub row_noted : (e b o w : Bool) → ((e && o) || ((b && o) || w)) ≡ (((e || b) && o) || w)
row_noted true true true w = refl
row_noted true true false w = refl
row_noted true false true w = refl
row_noted true false false w = refl
row_noted false b o w = refl
