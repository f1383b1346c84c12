-- What `==` of votes answers: true exactly where they are the same. A derived `==` goes by the sum of the kinds, and by the fields of each.
use Rattle.std.proofs.Common.{◌≡◌, Bool, true, false, ◌&&◌, List, ◌⊎◌, inl, inr, ⊎_elim, refl, subst, rules}
use Rattle.std.specs.Prelude.{nat_eq}
use Rattle.std.specs.Bool.{Decides}
use Rattle.std.specs.Cmp.Lexicographic.{pointwise, bytes_decides}
use Rattle.std.specs.contracts.prelude.BoolPartialEq.TheImpl.{ghosts as bits}
use Rattle.std.proofs.lemmas.Bool.{and_parts, eqb-true}
use Rattle.std.proofs.lemmas.Slice.Eq.{slice_eq-Decides}
use Rattle.merkle_branch.specs.contracts.BranchPartialEq.TheImpl.{ghosts as branches}
use Rattle.hb_wire.specs.declared.items.Item.{Item}
use Rattle.hb_wire.specs.declared.vote.Vote.{Vote}
use Rattle.hb_wire.specs.Lists.{same_item}
use Rattle.hb_wire.specs.contracts.vote.Vote.{enum, as_values}
use Rattle.hb_wire.specs.contracts.vote.ValsPartialEq.TheImpl.{ghosts as sets}
use Rattle.hb_wire.specs.contracts.vote.VotePartialEq.TheImpl.{ghosts as votes}
use Rattle.hb_wire.specs.contracts.vote.VoteEq.TheImpl.Laws.{laws-law}
use denote.Enum.Declared.{values_one}

-- what passes the test is the same
abbrev Tells : {A : Type 0} → (A → A → Bool) → Type 0
Tells {A} test = (x y : A) → test x y ≡ true → x ≡ y

-- ---- fields

numbers : Tells nat_eq
numbers = eqb-true

bytes : Tells (pointwise nat_eq)
bytes xs ys e = (bytes_decides xs ys).0 e

bools : Tells bits.eq
bools x y e = search rules

both_sets : Tells sets.eq
both_sets x y e = search rules

digests : Tells (pointwise (pointwise nat_eq))
digests xs ys e = (slice_eq-Decides bytes_decides xs ys _ refl).0 e

both_branches : Tells branches.eq
both_branches a b e =
    let parts = and_parts (nat_eq a.len b.len) (pointwise (pointwise nat_eq) a.digests b.digests) e in
    λ i. record { len = numbers a.len b.len parts.0 i; digests = digests a.digests b.digests parts.1 i }

items : (x y : Item) → Decides (same_item x y) (x ≡ y)
items x y = search rules

pub lists : (xs ys : List Item) → Decides (pointwise same_item xs ys) (xs ≡ ys)
lists xs ys = slice_eq-Decides items xs ys _ refl

-- ---- one field behind another, and one kind or another

abbrev both : {A B : Type 0} → (A → A → Bool) → (B → B → Bool) → A × B → A × B → Bool
both E F x y = E x.0 y.0 && F x.1 y.1

abbrev last : {A : Type 0} → (A → A → Bool) → A × Unit {0} → A × Unit {0} → Bool
last E x y = E x.0 y.0

abbrev either : {A B : Type 0} → (A → A → Bool) → (B → B → Bool) → A ⊎ B → A ⊎ B → Bool
either E F c d = ⊎_elim (λ x. ⊎_elim (λ y. E x y) (λ _. false) d) (λ x. ⊎_elim (λ _. false) (λ y. F x y) d) c

abbrev neither : ⊥ → ⊥ → Bool
neither c d = absurd c

and_then : {A B : Type 0} {E : A → A → Bool} {F : B → B → Bool} → Tells E → Tells F → Tells (both E F)
and_then {A} {B} {E} {F} e f x y h =
    let parts = and_parts (E x.0 y.0) (F x.1 y.1) h in
    λ i. (e x.0 y.0 parts.0 i, f x.1 y.1 parts.1 i)

end : {A : Type 0} {E : A → A → Bool} → Tells E → Tells (last E)
end e x y h = λ i. (e x.0 y.0 h i, tt)

or : {A B : Type 0} {E : A → A → Bool} {F : B → B → Bool} → Tells E → Tells F → Tells (either E F)
or e f (inl x) (inl y) h = λ i. inl (e x y h i)
or e f (inl x) (inr y) h = absurd cc
or e f (inr x) (inl y) h = absurd cc
or e f (inr x) (inr y) h = λ i. inr (f x y h i)

no_more : Tells neither
no_more x y h = absurd x

-- ---- votes

vote_tells : Tells votes.eq
vote_tells v w h = values_one enum v w (
    or (and_then numbers (and_then numbers (and_then bytes (and_then bytes (end both_branches))))) (
    or (and_then numbers (and_then bytes (and_then bytes (end both_branches)))) (
    or (and_then numbers (end bytes)) (
    or (and_then numbers (end bytes)) (
    or (and_then numbers (and_then numbers (end bools))) (
    or (and_then numbers (and_then numbers (end bools))) (
    or (and_then numbers (and_then numbers (end bools))) (
    or (and_then numbers (and_then numbers (end both_sets))) (
    or (and_then numbers (and_then numbers (and_then numbers (and_then bytes (end both_branches))))) (
    or (and_then numbers (end bools)) (
    or (and_then numbers (and_then numbers (end both_sets))) (
    or (and_then numbers (end bytes)) (
    or (end numbers) (
    or (and_then numbers (end (λ xs ys. (lists xs ys).0)))
    no_more))))))))))))) (as_values v) (as_values w) h)

pub one_vote : (v w : Vote) → Decides (votes.eq v w) (v ≡ w)
one_vote v w = (vote_tells v w, λ is. subst (λ (x : Vote). votes.eq v x ≡ true) is (laws-law.refl v))
