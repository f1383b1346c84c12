-- How a value of Leaves and one of Tree keep their digests.
use Rattle.std.specs.Prelude.{◌≡◌, ℕ, ◌+◌, ◌-◌, ◌*◌, ◌^◌, ◌<◌, ◌≤◌, List, length, take, drop, replicate, slice_index_or, All}
use Rattle.merkle_branch.specs.Digests.{IsDigest, no_digest, inner_digest, height, digest_at}

-- 16 places, of which the first count are taken and the others hold no_digest
pub record IsPaddedTo16 (count : ℕ) (digests : List (List ℕ)) : Type 0 where
  pub few : count ≤ 16
  pub taken : All IsDigest (take count digests)
  pub rest : drop count digests ≡ replicate (16 - count) no_digest

-- where level l of a tree of height l + above begins, if the levels lie one behind the other from
-- the leaves up: level l has 2 ^ above nodes
abbrev pub level_start : ℕ → ℕ → ℕ
level_start height above = 2 * 2 ^ height - 2 * 2 ^ above

-- behind the width leaves stand the digests over each two neighbours, in order
abbrev pub HasParents : ℕ → List (List ℕ) → Type 0
HasParents width nodes =
    (i : ℕ) → i + 1 < width → slice_index_or nodes (width + i) no_digest
    ≡ inner_digest (slice_index_or nodes (2 * i) no_digest) (slice_index_or nodes (2 * i + 1) no_digest)

-- the nodes are all digests of the tree over the first count of them, level by level
pub record HasAllLevels (count h : ℕ) (nodes : List (List ℕ)) : Type 0 where
  pub some : 1 ≤ count
  pub few : count ≤ 16
  pub is_height : h ≡ height count
  pub leaves : All IsDigest (take count nodes)
  pub size : length nodes + 1 ≡ 2 * 2 ^ h
  pub levels : (l above p : ℕ) → l + above ≡ h → p < 2 ^ above → slice_index_or nodes (level_start h above + p) no_digest ≡ digest_at (take count nodes) l p
