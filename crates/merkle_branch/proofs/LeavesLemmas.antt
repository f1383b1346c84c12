-- A leaf more.
use Rattle.std.proofs.Common.{◌≡◌, ℕ, suc, ◌+◌, ◌-◌, ◌<◌, ◌≤◌, List, [], ◌∷◌, ◌++◌, length, take, drop, set, replicate, refl, sym, ap, ◌∙◌, subst, arith}
use Rattle.std.specs.List.{All}
use Rattle.std.proofs.lemmas.List.{drop-set-lt, drop-drop, drop-replicate, take_more_set, length-take-le}
use Rattle.std.proofs.lemmas.List.Elements.{All-push}
use Rattle.merkle_branch.specs.Digests.{IsDigest, no_digest, leaf_digest, leaf_digests, leaf_digests_from}
use Rattle.merkle_branch.specs.Shapes.{IsPaddedTo16}

pub count_is : (count : ℕ) (digests now : List (List ℕ)) → length digests ≡ 16 → take count digests ≡ now → count ≤ 16 → count ≡ length now
count_is count digests now size view few = sym (length-take-le count digests (omega arith)) ∙ ap length view

-- one place more is taken
pub one_taken : (count : ℕ) (digests now : List (List ℕ)) (digest : List ℕ) → length digests ≡ 16 → take count digests ≡ now → length now < 16
    → IsDigest digest → IsPaddedTo16 count digests → IsPaddedTo16 (count + 1) (set digests count digest)
one_taken count digests now digest size view room is padded =
    let taken : count ≡ length now = count_is count digests now size view padded.few in
    let left : 16 - count - 1 ≡ 16 - (count + 1) = omega arith in
    record {
      few = omega arith;
      taken = subst (All IsDigest) (sym (take_more_set digests count digest (omega arith))) (All-push IsDigest (take count digests) digest padded.taken is);
      rest = drop-set-lt (count + 1) digests count digest (omega arith)
          ∙ sym (drop-drop 1 count digests)
          ∙ ap (drop 1) padded.rest
          ∙ drop-replicate 1 (16 - count) no_digest
          ∙ ap (λ n. replicate n no_digest) left;
    }

-- and holds the leaf's digest
pub one_shown : (count : ℕ) (digests now : List (List ℕ)) (digest leaf : List ℕ) → length digests ≡ 16 → take count digests ≡ now → length now < 16
    → IsPaddedTo16 count digests → digest ≡ leaf_digest count leaf → take (count + 1) (set digests count digest) ≡ now ++ leaf_digest (length now) leaf ∷ []
one_shown count digests now digest leaf size view room padded e =
    let taken : count ≡ length now = count_is count digests now size view padded.few in
    let shown : digest ≡ leaf_digest (length now) leaf = e ∙ ap (λ i. leaf_digest i leaf) taken in
    take_more_set digests count digest (omega arith)
    ∙ ap (λ front. front ++ digest ∷ []) view
    ∙ ap (λ d. now ++ d ∷ []) shown

pub length-leaf_digests_from : (m : ℕ) (leaves : List (List ℕ)) → length (leaf_digests_from m leaves) ≡ length leaves
length-leaf_digests_from m [] = refl
length-leaf_digests_from m (leaf ∷ leaves) = ap suc (length-leaf_digests_from (suc m) leaves)

leaf_digests_from-push : (m : ℕ) (leaves : List (List ℕ)) (leaf : List ℕ) → leaf_digests_from m (leaves ++ leaf ∷ []) ≡ leaf_digests_from m leaves ++ leaf_digest (m + length leaves) leaf ∷ []
leaf_digests_from-push m [] leaf = ap (λ i. leaf_digest i leaf ∷ []) (omega arith)
leaf_digests_from-push m (first ∷ leaves) leaf =
    let index : suc m + length leaves ≡ m + suc (length leaves) = omega arith in
    ap (◌∷◌ (leaf_digest m first)) (leaf_digests_from-push (suc m) leaves leaf
    ∙ ap (λ i. leaf_digests_from (suc m) leaves ++ leaf_digest i leaf ∷ []) index)

-- the digest of one leaf more
pub leaf_digests-push : (digests leaves : List (List ℕ)) (leaf : List ℕ) → digests ≡ leaf_digests leaves
    → digests ++ leaf_digest (length digests) leaf ∷ [] ≡ leaf_digests (leaves ++ leaf ∷ [])
leaf_digests-push digests leaves leaf e =
    let size : length digests ≡ 0 + length leaves = ap length e ∙ length-leaf_digests_from 0 leaves ∙ omega arith in
    ap (λ i. digests ++ leaf_digest i leaf ∷ []) size
    ∙ ap (λ ds. ds ++ leaf_digest (0 + length leaves) leaf ∷ []) e
    ∙ sym (leaf_digests_from-push 0 leaves leaf)
