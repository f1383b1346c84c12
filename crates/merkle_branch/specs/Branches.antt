-- A branch leads from one leaf of a tree to its root: the siblings on the way, from the bottom up.
use Rattle.std.specs.Prelude.{◌≡◌, ◌≢◌, ℕ, ◌-◌, ◌/◌, ◌%◌, ◌==◌, Bool, ◌&&◌, if◌then◌else◌, List, [], ◌∷◌, ◌++◌, length, take, drop, replicate, Contains, ◌≤◌, bytes_eq}
use Rattle.std.specs.List.{AllByRecursion}
use Rattle.sha2.specs.Sha256.{sha256}
use Rattle.merkle_branch.specs.Digests.{IsDigest, no_digest, leaf_string, leaf_digest, inner_string, height, siblings_from}
use Rattle.merkle_branch.specs.declared.Branch.{Branch}

-- the digests that a branch has
abbrev pub siblings : Branch → List (List ℕ)
siblings branch = take branch.len branch.digests

-- what is hashed above the digest at position p, with its sibling on the other side
abbrev pub parent_string : ℕ → List ℕ → List ℕ → List ℕ
parent_string p digest sibling = if p % 2 == 0 then inner_string digest sibling else inner_string sibling digest

-- the digest that folding siblings onto the one at position p ends with
abbrev pub folded : ℕ → List ℕ → List (List ℕ) → List ℕ
folded p digest [] = digest
folded p digest (s ∷ rest) = folded (p / 2) (sha256 (parent_string p digest s)) rest

-- the strings that are hashed by it, from the bottom up
abbrev pub parent_strings : ℕ → List ℕ → List (List ℕ) → List (List ℕ)
parent_strings p digest [] = []
parent_strings p digest (s ∷ rest) = parent_string p digest s ∷ parent_strings (p / 2) (sha256 (parent_string p digest s)) rest

-- the strings that are hashed to check a branch of leaf m
abbrev pub folded_strings : ℕ → List ℕ → Branch → List (List ℕ)
folded_strings m leaf branch = leaf_string m leaf ∷ parent_strings m (leaf_digest m leaf) (siblings branch)

-- the branch leads from leaf m of n to the root
pub record IsBranch (root : List ℕ) (n m : ℕ) (leaf : List ℕ) (branch : Branch) : Type 0 where
  pub len : branch.len ≡ height n
  pub whole : length (siblings branch) ≡ height n
  pub folds : folded m (leaf_digest m leaf) (siblings branch) ≡ root

-- whether it does
unfoldable pub is_branch : List ℕ → ℕ → ℕ → List ℕ → Branch → Bool
is_branch root n m leaf branch =
    branch.len == height n && length (siblings branch) == height n
    && bytes_eq (folded m (leaf_digest m leaf) (siblings branch)) root

-- the branch of leaf m in the tree over these leaf digests
abbrev pub branch_of : List (List ℕ) → ℕ → Branch
branch_of digests m = record {
  len = height (length digests);
  digests = siblings_from digests (height (length digests)) 0 m ++ replicate (4 - height (length digests)) no_digest;
}

-- a branch's entries behind its digests are zero bytes
pub record IsPadded (branch : Branch) : Type 0 where
  pub len : branch.len ≤ 4
  pub entries : length branch.digests ≡ 4
  pub rest : drop branch.len branch.digests ≡ replicate (4 - branch.len) no_digest

-- the form of a branch among n leaves: as many digests as the tree is high, and zero bytes behind them
pub record IsPath (n : ℕ) (branch : Branch) : Type 0 where
  pub len : branch.len ≡ height n
  pub padded : IsPadded branch
  pub digests : AllByRecursion IsDigest (siblings branch)

-- two different strings, one of each list, that have one digest
pub record Collision (first second : List (List ℕ)) : Type 0 where
  pub one : List ℕ
  pub other : List ℕ
  pub one_in : Contains first one
  pub other_in : Contains second other
  pub differ : one ≢ other
  pub same_digest : sha256 one ≡ sha256 other
