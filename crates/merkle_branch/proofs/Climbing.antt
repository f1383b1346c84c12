-- The siblings are taken from a tree's digests level by level.
use Rattle.std.proofs.Common.{◌≡◌, ℕ, suc, ◌+◌, ◌-◌, ◌*◌, ◌/◌, ◌^◌, ◌<◌, ◌≤◌, List, [], ◌∷◌, ◌++◌, length, take, drop, set, get_or, replicate, sym, ap, ◌∙◌, arith, append_assoc}
use Rattle.std.proofs.lemmas.List.{take_more_set, drop-set-lt, drop-drop, drop-replicate, take-append-drop, append-nil, length-set}
use Rattle.std.proofs.lemmas.Bool.Decides.{nat_tests}
use Rattle.std.proofs.Math.Nat.{pow-suc}
use Rattle.merkle_branch.specs.Digests.{no_digest, digest_at, sibling, siblings_from}
use Rattle.merkle_branch.specs.Shapes.{HasAllLevels, level_start}

-- at this level the siblings below it are taken, at a position of the level's nodes from start on
pub record Climbs (leaves : List (List ℕ)) (h m level start width position : ℕ) (digests : List (List ℕ)) : Type 0 where
  pub width_is : width ≡ 2 ^ (h - level)
  pub start_is : start + 2 * width ≡ 2 * 2 ^ h
  pub inside : position < width
  pub taken : take level digests ++ siblings_from leaves (h - level) level position ≡ siblings_from leaves h 0 m
  pub free : drop level digests ≡ replicate (4 - level) no_digest
  pub size : length digests ≡ 4

pub sibling_inside : (p width half : ℕ) → width ≡ half * 2 → p < width → sibling p < width
sibling_inside p width half even inside = grind (arith, nat_tests)

-- the width of a level that is not the top one
pub width_double : (h level width : ℕ) → level < h → width ≡ 2 ^ (h - level) → width ≡ 2 ^ (h - (level + 1)) * 2
width_double h level width below is =
    let step : h - level ≡ suc (h - (level + 1)) = omega arith in
    is ∙ ap (λ k. 2 ^ k) step ∙ pow-suc 2 (h - (level + 1))

-- the sibling's place in the tree
pub sibling_at : (count h m level start width position : ℕ) (nodes leaves digests : List (List ℕ)) → HasAllLevels count h nodes → take count nodes ≡ leaves → level < h
    → Climbs leaves h m level start width position digests → get_or nodes (start + sibling position) no_digest ≡ digest_at leaves level (sibling position)
sibling_at count h m level start width position nodes leaves digests tree view below climbs =
    let next : sibling position < width = sibling_inside position width (2 ^ (h - (level + 1))) (width_double h level width below climbs.width_is) climbs.inside in
    let begins : start ≡ level_start h (h - level) = omega (arith, climbs.width_is, climbs.start_is) in
    ap (λ s. get_or nodes (s + sibling position) no_digest) begins
    ∙ tree.levels level (h - level) (sibling position) (omega arith) (rw (← climbs.width_is) next)
    ∙ ap (λ ds. digest_at ds level (sibling position)) view

pub place_inside : (count h m level start width position : ℕ) (nodes leaves digests : List (List ℕ)) → HasAllLevels count h nodes → level < h
    → Climbs leaves h m level start width position digests → start + sibling position < length nodes
place_inside count h m level start width position nodes leaves digests tree below climbs =
    let double : width ≡ 2 ^ (h - (level + 1)) * 2 = width_double h level width below climbs.width_is in
    let next : sibling position < width = sibling_inside position width (2 ^ (h - (level + 1))) double climbs.inside in
    omega (arith, tree.size, climbs.start_is, climbs.inside)

pub climb_begins : (leaves digests : List (List ℕ)) (h m width : ℕ) → width ≡ 2 ^ h → m < width → digests ≡ replicate 4 no_digest → Climbs leaves h m 0 0 width m digests
climb_begins leaves digests h m width is inside zeros =
    let all : h - 0 ≡ h = omega arith in
    record {
      width_is = is ∙ ap (λ k. 2 ^ k) (sym all);
      start_is = omega arith;
      inside = inside;
      taken = ap (λ k. siblings_from leaves k 0 m) all;
      free = zeros;
      size = ap length zeros;
    }

pub climb_goes_on : (leaves digests : List (List ℕ)) (h m level start width position : ℕ) (digest : List ℕ) → level < h → h ≤ 4
    → digest ≡ digest_at leaves level (sibling position) → Climbs leaves h m level start width position digests
    → Climbs leaves h m (level + 1) (start + width) (width / 2) (position / 2) (set digests level digest)
unfolding siblings_from
climb_goes_on leaves digests h m level start width position digest below low is climbs =
    let double : width ≡ 2 ^ (h - (level + 1)) * 2 = width_double h level width below climbs.width_is in
    let step : h - level ≡ suc (h - (level + 1)) = omega arith in
    let next : level + 1 ≡ suc level = omega arith in
    let left : 4 - level - 1 ≡ 4 - (level + 1) = omega arith in
    let size : length digests ≡ 4 = climbs.size in
    let above = siblings_from leaves (h - (level + 1)) (suc level) (position / 2) in
    record {
      width_is = omega arith;
      start_is = omega (arith, climbs.start_is);
      inside = omega (arith, climbs.inside);
      taken = ap (λ front. front ++ siblings_from leaves (h - (level + 1)) (level + 1) (position / 2)) (take_more_set digests level digest (omega arith))
          ∙ ap (λ k. (take level digests ++ digest ∷ []) ++ siblings_from leaves (h - (level + 1)) k (position / 2)) next
          ∙ append_assoc (take level digests) (digest ∷ []) above
          ∙ ap (λ d. take level digests ++ d ∷ above) is
          ∙ ap (λ k. take level digests ++ siblings_from leaves k level position) (sym step)
          ∙ climbs.taken;
      free = drop-set-lt (level + 1) digests level digest (omega arith)
          ∙ sym (drop-drop 1 level digests)
          ∙ ap (drop 1) climbs.free
          ∙ drop-replicate 1 (4 - level) no_digest
          ∙ ap (λ n. replicate n no_digest) left;
      size = length-set digests level digest ∙ size;
    }

pub climb_ends : (leaves digests : List (List ℕ)) (h m level start width position : ℕ) → level ≡ h → Climbs leaves h m level start width position digests
    → digests ≡ siblings_from leaves h 0 m ++ replicate (4 - h) no_digest
unfolding siblings_from
climb_ends leaves digests h m level start width position ends climbs =
    let none : h - level ≡ 0 = omega arith in
    let taken : take level digests ≡ siblings_from leaves h 0 m =
    sym (append-nil (take level digests)) ∙ ap (λ k. take level digests ++ siblings_from leaves k level position) (sym none) ∙ climbs.taken
    in
    sym (take-append-drop level digests)
    ∙ ap (λ front. front ++ drop level digests) taken
    ∙ ap (λ back. siblings_from leaves h 0 m ++ back) climbs.free
    ∙ ap (λ n. siblings_from leaves h 0 m ++ replicate (4 - n) no_digest) ends
