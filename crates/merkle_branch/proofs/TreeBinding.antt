-- Two trees of one root have equal leaves, or two of their strings collide.
use Rattle.std.proofs.Common.{◌≡◌, ℕ, zero, suc, ◌*◌, ◌^◌, ◌≤◌, List, [], ◌∷◌, ◌++◌, length, take, drop, get_or, refl, sym, ap, ◌∙◌, subst, arith, inl, inr, ◌⊎◌, Contains}
use Rattle.std.specs.List.{All}
use Rattle.std.proofs.lemmas.List.{take-append-drop, length-take, length-drop, nil_from_length}
use Rattle.std.proofs.lemmas.List.Elements.{All-take, All-drop, Contains-append_left, Contains-append_right}
use Rattle.std.proofs.Math.Nat.{pow-suc}
use Rattle.sha2.specs.Sha256.{sha256}
use Rattle.merkle_branch.specs.Digests.{IsDigest, no_digest, leaf_string, leaf_digests, leaf_digests_from, leaf_strings_from, inner_string, inner_strings, tree_strings, top_digest, tree_root, height}
use Rattle.merkle_branch.specs.Branches.{Collision}
use Rattle.merkle_branch.proofs.Binding.{same_front, same_back, higher, equal_or_collide}
use Rattle.merkle_branch.proofs.HeightLemmas.{height_fits}
use Rattle.merkle_branch.proofs.Paths.{leaf_digests_are, top_is_digest}
use Rattle.merkle_branch.proofs.LeavesLemmas.{length-leaf_digests_from}

-- a collision among these strings is one among more
pub among_more : (xs ys more others : List (List ℕ)) → ((x : List ℕ) → Contains xs x → Contains more x) → ((y : List ℕ) → Contains ys y → Contains others y)
    → Collision xs ys → Collision more others
among_more xs ys more others left right c = record {
  one = c.one;
  other = c.other;
  one_in = left c.one c.one_in;
  other_in = right c.other c.other_in;
  differ = c.differ;
  same_digest = c.same_digest;
}

among_left : (xs ys us vs : List (List ℕ)) → Collision xs ys → Collision (xs ++ us) (ys ++ vs)
among_left xs ys us vs = among_more xs ys (xs ++ us) (ys ++ vs) (Contains-append_left xs us) (Contains-append_left ys vs)

among_right : (xs ys us vs : List (List ℕ)) → Collision us vs → Collision (xs ++ us) (ys ++ vs)
among_right xs ys us vs = among_more us vs (xs ++ us) (ys ++ vs) (Contains-append_right xs us) (Contains-append_right ys vs)

-- what each of two halves has, or a collision in one of them
both_or_collide : (A B : Type 0) (xs ys us vs : List (List ℕ)) → A ⊎ Collision xs ys → B ⊎ Collision us vs → (A × B) ⊎ Collision (xs ++ us) (ys ++ vs)
both_or_collide A B xs ys us vs one other =
    let Goal : Type 0 = (A × B) ⊎ Collision (xs ++ us) (ys ++ vs) in
    elim one as (λ _. Goal) [
      | inl a ↦ elim other as (λ _. Goal) [
        | inl b ↦ inl (a, b)
        | inr collision ↦ inr (among_right xs ys us vs collision)
      ]
      | inr collision ↦ inr (among_left xs ys us vs collision)
    ]

one_digest : (first second : List (List ℕ)) → length first ≡ length second → length first ≤ 1 → get_or first 0 no_digest ≡ get_or second 0 no_digest → first ≡ second
one_digest [] [] len few same = refl
one_digest [] (e ∷ es) len few same = absurd (omega arith)
one_digest (d ∷ ds) [] len few same = absurd (omega arith)
one_digest (d ∷ ds) (e ∷ es) len few same =
    let no_more : ds ≡ [] = nil_from_length ds (omega arith) in
    let no_others : es ≡ [] = nil_from_length es (omega arith) in
    cc

two_halves : (k : ℕ) (first second : List (List ℕ)) → take k first ≡ take k second → drop k first ≡ drop k second → first ≡ second
two_halves k first second front back = sym (take-append-drop k first) ∙ ap (λ xs. xs ++ drop k first) front ∙ ap (λ ys. take k second ++ ys) back ∙ take-append-drop k second

-- trees of one height with the same number of digests and one top
pub tops_bind : (h : ℕ) (first second : List (List ℕ)) → All IsDigest first → All IsDigest second → length first ≡ length second → length first ≤ 2 ^ h
    → top_digest h first ≡ top_digest h second → (first ≡ second) ⊎ Collision (inner_strings h first) (inner_strings h second)
unfolding top_digest inner_strings
tops_bind zero first second are others len few same = inl (one_digest first second len few same)
tops_bind (suc h) first second are others len few same =
    let k = 2 ^ h in
    let a = top_digest h (take k first) in
    let b = top_digest h (drop k first) in
    let c = top_digest h (take k second) in
    let d = top_digest h (drop k second) in
    let xs = inner_strings h (take k first) ++ inner_strings h (drop k first) in
    let ys = inner_strings h (take k second) ++ inner_strings h (drop k second) in
    let Goal : Type 0 = (first ≡ second) ⊎ Collision (inner_string a b ∷ xs) (inner_string c d ∷ ys) in
    let double : 2 ^ suc h ≡ k * 2 = pow-suc 2 h in
    elim (equal_or_collide (inner_string a b) (inner_string c d) xs ys same) as (λ _. Goal) [
      | inl strings ↦
          let long_a : length a ≡ 32 = (top_is_digest h (take k first) (All-take IsDigest k first are)).len in
          let long_c : length c ≡ 32 = (top_is_digest h (take k second) (All-take IsDigest k second others)).len in
          let long_b : length b ≡ 32 = (top_is_digest h (drop k first) (All-drop IsDigest k first are)).len in
          let long_d : length d ≡ 32 = (top_is_digest h (drop k second) (All-drop IsDigest k second others)).len in
          let joined : a ++ b ≡ c ++ d = cc in
          let fronts : a ≡ c = same_front a b c d (long_a ∙ sym long_c) joined in
          let backs : b ≡ d = same_back a b c d (long_b ∙ sym long_d) joined in
          let front_len : length (take k first) ≡ length (take k second) = omega (arith, length-take k first, length-take k second) in
          let back_len : length (drop k first) ≡ length (drop k second) = omega (arith, length-drop k first, length-drop k second) in
          let left = tops_bind h (take k first) (take k second) (All-take IsDigest k first are) (All-take IsDigest k second others)
          front_len (omega (arith, length-take k first)) fronts in
          let right = tops_bind h (drop k first) (drop k second) (All-drop IsDigest k first are) (All-drop IsDigest k second others)
          back_len (omega (arith, length-drop k first)) backs in
          elim (both_or_collide (take k first ≡ take k second) (drop k first ≡ drop k second) _ _ _ _ left right) as (λ _. Goal) [
            | inl halves ↦ inl (two_halves k first second halves.0 halves.1)
            | inr collision ↦ inr (higher xs ys (inner_string a b) (inner_string c d) collision)
          ]
      | inr collision ↦ inr collision
    ]

-- leaves of equal digests
pub leaves_bind : (m : ℕ) (first second : List (List ℕ)) → leaf_digests_from m first ≡ leaf_digests_from m second
    → (first ≡ second) ⊎ Collision (leaf_strings_from m first) (leaf_strings_from m second)
leaves_bind m [] [] same = inl refl
leaves_bind m [] (y ∷ ys) same = cc
leaves_bind m (x ∷ xs) [] same = cc
leaves_bind m (x ∷ xs) (y ∷ ys) same =
    let Goal : Type 0 = (x ∷ xs ≡ y ∷ ys) ⊎ Collision (leaf_strings_from m (x ∷ xs)) (leaf_strings_from m (y ∷ ys)) in
    let heads : sha256 (leaf_string m x) ≡ sha256 (leaf_string m y) = cc in
    let tails : leaf_digests_from (suc m) xs ≡ leaf_digests_from (suc m) ys = cc in
    elim (equal_or_collide (leaf_string m x) (leaf_string m y) (leaf_strings_from (suc m) xs) (leaf_strings_from (suc m) ys) heads) as (λ _. Goal) [
      | inl strings ↦ elim (leaves_bind (suc m) xs ys tails) as (λ _. Goal) [
        | inl rest ↦ inl cc
        | inr collision ↦ inr (higher _ _ (leaf_string m x) (leaf_string m y) collision)
      ]
      | inr collision ↦ inr collision
    ]

pub trees_bind : (first second : List (List ℕ)) → length first ≡ length second → length first ≤ 16 → tree_root first ≡ tree_root second
    → (first ≡ second) ⊎ Collision (tree_strings first) (tree_strings second)
trees_bind first second len few same =
    let ds = leaf_digests first in
    let es = leaf_digests second in
    let count : length ds ≡ length first = length-leaf_digests_from 0 first in
    let other_count : length es ≡ length second = length-leaf_digests_from 0 second in
    let Goal : Type 0 = (first ≡ second) ⊎ Collision (tree_strings first) (tree_strings second) in
    let h = height (length first) in
    let fits : length first ≤ 2 ^ h = height_fits (length first) few in
    let same_top : top_digest h ds ≡ top_digest h es =
    ap (λ n. top_digest (height n) ds) (sym count) ∙ same ∙ ap (λ n. top_digest (height n) es) (other_count ∙ sym len)
    in
    let tops = tops_bind h ds es (leaf_digests_are 0 first) (leaf_digests_are 0 second) (count ∙ len ∙ sym other_count) (omega arith) same_top in
    let higher_strings : Collision (inner_strings h ds) (inner_strings h es) → Collision (tree_strings first) (tree_strings second) = λ c.
    subst (λ n. Collision (tree_strings first) (leaf_strings_from 0 second ++ inner_strings (height n) es)) len
    (among_right (leaf_strings_from 0 first) (leaf_strings_from 0 second) (inner_strings h ds) (inner_strings h es) c)
    in
    elim tops as (λ _. Goal) [
      | inl digests ↦ elim (leaves_bind 0 first second digests) as (λ _. Goal) [
        | inl leaves ↦ inl leaves
        | inr collision ↦ inr (among_left (leaf_strings_from 0 first) (leaf_strings_from 0 second) (inner_strings h ds) (inner_strings (height (length second)) es) collision)
      ]
      | inr collision ↦ inr (higher_strings collision)
    ]
