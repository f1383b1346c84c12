-- The first result along a list with one more element, and counts of nodes by tests that agree below a number.
use Rattle.std.proofs.Common.{◌≡◌, ℕ, zero, suc, ◌+◌, ◌<◌, Bool, List, [], ◌∷◌, ◌++◌, Option, None, Some, if◌then◌else◌, refl, ap, ap₂, ◌∙◌, arith}
use Rattle.std.specs.Option.{option_or}
use Rattle.hb_base.specs.Counting.{count_nodes}
use Rattle.hb_rules.specs.Slots.{first_of}

pub option_or-none : {B : Type 0} (o : Option B) → option_or o None ≡ o
option_or-none None = refl
option_or-none (Some y) = refl

or_assoc : {B : Type 0} (o p q : Option B) → option_or o (option_or p q) ≡ option_or (option_or o p) q
or_assoc None p q = refl
or_assoc (Some y) p q = refl

-- one element more gives its own result, where none before it gave one
pub first_of-push : {A B : Type 0} (f : A → Option B) (xs : List A) (x : A) → first_of f (xs ++ x ∷ []) ≡ option_or (first_of f xs) (f x)
first_of-push f [] x = option_or-none (f x)
first_of-push {A} {B} f (y ∷ xs) x =
    ap (λ (o : Option B). option_or (f y) o) (first_of-push f xs x) ∙ or_assoc (f y) (first_of f xs) (f x)

-- tests that agree below a number count the same below it
pub count_nodes-below : (n : ℕ) (p q : ℕ → Bool) → ((a : ℕ) → a < n → p a ≡ q a) → count_nodes n p ≡ count_nodes n q
count_nodes-below zero p q same = refl
count_nodes-below (suc n) p q same =
    ap₂ (λ (k : ℕ) (b : Bool). k + (if b then 1 else 0)) (count_nodes-below n p q (λ a below. same a (omega arith))) (same n (omega arith))
