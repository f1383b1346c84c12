-- What a tree keeps is a tree of its leaves.
use Rattle.std.proofs.Common.{◌≡◌, ℕ, ◌+◌, ◌-◌, ◌*◌, ◌^◌, ◌<◌, ◌≤◌, List, [], length, take, get_or, sym, ap, ap₂, ◌∙◌, subst, arith, inl, inr}
use Rattle.std.specs.List.{All}
use Rattle.std.proofs.lemmas.List.{get_or-take, get_or-drop, take-take, get_or-replicate, get_or_past, get_or_default, length-take-le, length-take}
use Rattle.std.proofs.lemmas.Bool.{cases_lt}
use Rattle.merkle_branch.specs.Digests.{IsDigest, no_digest, inner_digest, height, root_of, top_digest}
use Rattle.merkle_branch.specs.Shapes.{IsPaddedTo16, HasAllLevels, HasParents, level_start}
use Rattle.merkle_branch.proofs.Levels.{all_levels, digest_at-top}

-- a place holds a leaf's digest, or the padding
padded_place : (count p : ℕ) (digests : List (List ℕ)) → length digests ≡ 16 → IsPaddedTo16 count digests → p < 16
    → get_or digests p no_digest ≡ get_or (take count digests) p no_digest
padded_place count p digests size padded inside =
    elim (cases_lt p count) as (λ _. get_or digests p no_digest ≡ get_or (take count digests) p no_digest) [
      | inl taken ↦ sym (get_or-take count digests p no_digest taken)
      | inr free ↦
          let place : p ≡ count + (p - count) = omega arith in
          let past : length (take count digests) ≤ p = omega (arith, length-take count digests) in
          ap (λ i. get_or digests i no_digest) place
          ∙ sym (get_or-drop count digests (p - count) no_digest)
          ∙ ap (λ xs. get_or xs (p - count) no_digest) padded.rest
          ∙ get_or-replicate (16 - count) (p - count) no_digest no_digest (omega arith)
          ∙ sym (get_or_past (take count digests) p no_digest past)
    ]

-- the first digests of a tree are those of its leaves
pub same_view : (count width : ℕ) (digests nodes : List (List ℕ)) → take width nodes ≡ take width digests → count ≤ width → take count nodes ≡ take count digests
same_view count width digests nodes same fits =
    sym (take-take count width nodes fits) ∙ ap (take count) same ∙ take-take count width digests fits

-- leaves with their parents are a tree
pub built : (count h width : ℕ) (digests nodes : List (List ℕ)) → length digests ≡ 16 → IsPaddedTo16 count digests → 1 ≤ count
    → h ≡ height count → width ≡ 2 ^ h → count ≤ width → width ≤ 16
    → length nodes + 1 ≡ 2 * width → take width nodes ≡ take width digests → HasParents width nodes → HasAllLevels count h nodes
built count h width digests nodes size padded some is_height is_width fits small total same parents =
    let leaves : (p : ℕ) → p < width → get_or nodes p no_digest ≡ get_or (take count nodes) p no_digest = λ p inside.
    sym (get_or-take width nodes p no_digest inside)
    ∙ ap (λ xs. get_or xs p no_digest) same
    ∙ get_or-take width digests p no_digest inside
    ∙ padded_place count p digests size padded (omega arith)
    ∙ ap (λ xs. get_or xs p no_digest) (sym (same_view count width digests nodes same fits))
    in
    record {
      some = some;
      few = padded.few;
      is_height = is_height;
      leaves = subst (All IsDigest) (sym (same_view count width digests nodes same fits)) padded.taken;
      size = rw (← is_width) total;
      levels = all_levels (take count nodes) nodes h (subst (λ w. (p : ℕ) → p < w → get_or nodes p no_digest ≡ get_or (take count nodes) p no_digest) is_width leaves) (subst (λ w. HasParents w nodes) is_width parents);
    }

-- the last digest of a tree is the root
pub last_is_root : (count h : ℕ) (nodes digests : List (List ℕ)) → HasAllLevels count h nodes → count ≤ 2 ^ h → take count nodes ≡ digests
    → get_or nodes (length nodes - 1) no_digest ≡ root_of digests
last_is_root count h nodes digests tree fits view =
    let place : length nodes - 1 ≡ level_start h 0 + 0 = omega (arith, tree.size) in
    let counted : length (take count nodes) ≡ count = length-take-le count nodes (omega (arith, tree.size)) in
    let inside : length (take count nodes) ≤ 2 ^ h = omega arith in
    let is_height : h ≡ height (length (take count nodes)) = tree.is_height ∙ ap height (sym counted) in
    ap (λ i. get_or nodes i no_digest) place
    ∙ tree.levels h 0 0 (omega arith) (omega arith)
    ∙ digest_at-top (take count nodes) h inside
    ∙ ap (λ k. top_digest k (take count nodes)) is_height
    ∙ ap root_of view

-- the parents stand among the first of all digests
parents_front : (width : ℕ) (all : List (List ℕ)) → HasParents width all → HasParents width (take (2 * width - 1) all)
parents_front width all parents i inside =
    let kept : (k : ℕ) → k < 2 * width - 1 → get_or (take (2 * width - 1) all) k no_digest ≡ get_or all k no_digest = λ k low.
    get_or-take (2 * width - 1) all k no_digest low
    in
    kept (width + i) (omega arith) ∙ parents i inside ∙ sym (ap₂ inner_digest (kept (2 * i) (omega arith)) (kept (2 * i + 1) (omega arith)))

-- digests of which the first are leaves with their parents, and behind which others stand
module _ (count h width : ℕ) (digests all now : List (List ℕ)) (size : length digests ≡ 16) (room : length all ≡ 31) (padded : IsPaddedTo16 count digests)
    (some : 1 ≤ count) (is_height : h ≡ height count) (is_width : width ≡ 2 ^ h) (fits : count ≤ width) (small : width ≤ 16)
    (same : take width all ≡ take width digests) (parents : HasParents width all) (view : take count digests ≡ now) where
  -- as many of them as a tree has
  front_size : length (take (2 * width - 1) all) + 1 ≡ 2 * width
  front_size = omega (arith, length-take-le (2 * width - 1) all (omega arith))

  front_leaves : take width (take (2 * width - 1) all) ≡ take width digests
  front_leaves = take-take width (2 * width - 1) all (omega arith) ∙ same

  -- are a tree
  pub front_built : HasAllLevels count h (take (2 * width - 1) all)
  front_built =
      built count h width digests (take (2 * width - 1) all) size padded some is_height is_width fits small front_size front_leaves (parents_front width all parents)

  -- of these leaves
  pub front_view : take count (take (2 * width - 1) all) ≡ now
  front_view = same_view count width digests (take (2 * width - 1) all) front_leaves fits ∙ view

  -- whose last digest is the root
  pub front_root : get_or all (2 * width - 2) [] ≡ root_of now
  front_root =
      let nodes = take (2 * width - 1) all in
      let last : length nodes - 1 ≡ 2 * width - 2 = omega (arith, front_size) in
      get_or_default all (2 * width - 2) [] no_digest (omega arith)
      ∙ sym (get_or-take (2 * width - 1) all (2 * width - 2) no_digest (omega arith))
      ∙ ap (λ i. get_or nodes i no_digest) (sym last)
      ∙ last_is_root count h nodes now front_built (rw (← is_width) fits) front_view
