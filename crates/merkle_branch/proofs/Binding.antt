-- Two folds that end alike begin alike, or two of their strings collide.
use Rattle.std.proofs.Common.{◌≡◌, ◌≢◌, ℕ, suc, ◌/◌, ◌%◌, Bool, true, false, cond, eqb, List, [], ◌∷◌, ◌++◌, length, take, drop, refl, sym, ap, ◌∙◌, arith, inl, inr, ◌⊎◌, length-append}
use Rattle.std.proofs.lemmas.List.{take_at, drop_at}
use Rattle.std.proofs.lemmas.Bool.{cases_eq}
use Rattle.sha2.specs.Sha256.{sha256}
use Rattle.sha2.proofs.Facts256.{length-sha256}
use Rattle.merkle_branch.specs.Digests.{leaf_string, inner_string}
use Rattle.merkle_branch.specs.Branches.{IsBranch, Collision, siblings, parent_string, folded, parent_strings, folded_strings}
use Rattle.merkle_branch.specs.declared.Branch.{Branch}

-- two strings are equal or not
pub same_string : (xs ys : List ℕ) → (xs ≡ ys) ⊎ (xs ≢ ys)
same_string [] [] = inl refl
same_string [] (y ∷ ys) = inr (λ e. cc)
same_string (x ∷ xs) [] = inr (λ e. cc)
same_string (x ∷ xs) (y ∷ ys) =
    elim (cases_eq x y) as (λ _. (x ∷ xs ≡ y ∷ ys) ⊎ (x ∷ xs ≢ y ∷ ys)) [
      | inl same ↦ elim (same_string xs ys) as (λ _. (x ∷ xs ≡ y ∷ ys) ⊎ (x ∷ xs ≢ y ∷ ys)) [
        | inl rest ↦ inl cc
        | inr other ↦ inr (λ e. other cc)
      ]
      | inr other ↦ inr (λ e. other cc)
    ]

pub same_front : (a b c d : List ℕ) → length a ≡ length c → a ++ b ≡ c ++ d → a ≡ c
same_front a b c d len e =
    sym (take_at a b (length a) refl) ∙ ap (take (length a)) e ∙ take_at c d (length a) (sym len)

pub same_back : (a b c d : List ℕ) → length b ≡ length d → a ++ b ≡ c ++ d → b ≡ d
same_back a b c d len e =
    let fronts : length a ≡ length c = omega (arith, length-append a b, length-append c d, ap length e) in
    sym (drop_at a b (length a) refl) ∙ ap (drop (length a)) e ∙ drop_at c d (length a) (sym fronts)

-- the digest can be read from the string above it, on whichever side it stands
digest_on_side : (left : Bool) (d e s t : List ℕ) → length d ≡ 32 → length e ≡ 32
    → cond left (inner_string d s) (inner_string s d) ≡ cond left (inner_string e t) (inner_string t e) → d ≡ e
digest_on_side true d e s t dl el h = same_front d s e t (dl ∙ sym el) cc
digest_on_side false d e s t dl el h = same_back s d t e (dl ∙ sym el) cc

-- a collision further up is one among more strings
pub higher : (xs ys : List (List ℕ)) (x y : List ℕ) → Collision xs ys → Collision (x ∷ xs) (y ∷ ys)
higher xs ys x y c = record {
  one = c.one;
  other = c.other;
  one_in = (suc c.one_in.0, omega arith, c.one_in.2);
  other_in = (suc c.other_in.0, omega arith, c.other_in.2);
  differ = c.differ;
  same_digest = c.same_digest;
}

-- strings of one digest are equal, or they collide
pub equal_or_collide : (x y : List ℕ) (xs ys : List (List ℕ)) → sha256 x ≡ sha256 y → (x ≡ y) ⊎ Collision (x ∷ xs) (y ∷ ys)
equal_or_collide x y xs ys e =
    elim (same_string x y) as (λ _. (x ≡ y) ⊎ Collision (x ∷ xs) (y ∷ ys)) [
      | inl same ↦ inl same
      | inr other ↦ inr (record {
        one = x;
        other = y;
        one_in = (0, omega arith, refl);
        other_in = (0, omega arith, refl);
        differ = other;
        same_digest = e;
      })
    ]

pub folds_bind : (first second : List (List ℕ)) (p : ℕ) (d e : List ℕ) → length d ≡ 32 → length e ≡ 32 → length first ≡ length second
    → folded p d first ≡ folded p e second → (d ≡ e) ⊎ Collision (parent_strings p d first) (parent_strings p e second)
folds_bind [] [] p d e dl el len same = inl same
folds_bind [] (t ∷ ts) p d e dl el len same = absurd (omega arith)
folds_bind (s ∷ ss) [] p d e dl el len same = absurd (omega arith)
folds_bind (s ∷ ss) (t ∷ ts) p d e dl el len same =
    let x = parent_string p d s in
    let y = parent_string p e t in
    let Goal : Type 0 = (d ≡ e) ⊎ Collision (parent_strings p d (s ∷ ss)) (parent_strings p e (t ∷ ts)) in
    elim (folds_bind ss ts (p / 2) (sha256 x) (sha256 y) (length-sha256 x) (length-sha256 y) (omega arith) same) as (λ _. Goal) [
      | inl digests ↦ elim (equal_or_collide x y (parent_strings (p / 2) (sha256 x) ss) (parent_strings (p / 2) (sha256 y) ts) digests) as (λ _. Goal) [
        | inl strings ↦ inl (digest_on_side (eqb (p % 2) 0) d e s t dl el strings)
        | inr collision ↦ inr collision
      ]
      | inr collision ↦ inr (higher _ _ x y collision)
    ]

pub branches_bind : (root : List ℕ) (n m : ℕ) (first second : List ℕ) (b c : Branch) → IsBranch root n m first b → IsBranch root n m second c
    → (first ≡ second) ⊎ Collision (folded_strings m first b) (folded_strings m second c)
branches_bind root n m first second b c one other =
    let x = leaf_string m first in
    let y = leaf_string m second in
    let Goal : Type 0 = (first ≡ second) ⊎ Collision (folded_strings m first b) (folded_strings m second c) in
    elim (folds_bind (siblings b) (siblings c) m (sha256 x) (sha256 y) (length-sha256 x) (length-sha256 y) (one.whole ∙ sym other.whole) (one.folds ∙ sym other.folds)) as (λ _. Goal) [
      | inl digests ↦ elim (equal_or_collide x y (parent_strings m (sha256 x) (siblings b)) (parent_strings m (sha256 y) (siblings c)) digests) as (λ _. Goal) [
        | inl strings ↦ inl cc
        | inr collision ↦ inr collision
      ]
      | inr collision ↦ inr (higher _ _ x y collision)
    ]
