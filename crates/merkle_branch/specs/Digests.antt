-- Digests of a Merkle tree over SHA-256 (FIPS 180-4), with one byte in front that keeps leaves and
-- inner nodes apart (RFC 6962, section 2.1) and the leaf's index behind it. Bytes are numbers below 256.
use Rattle.std.specs.Prelude.{◌≡◌, ℕ, zero, suc, ◌+◌, ◌-◌, ◌*◌, ◌/◌, ◌%◌, ◌^◌, ◌==◌, ◌<◌, nat_le, if◌then◌else◌, List, [], ◌∷◌, ◌++◌, length, take, drop, replicate, slice_index_or, All}
use Rattle.sha2.specs.Sha256.{sha256}

-- 32 bytes
pub record IsDigest (digest : List ℕ) : Type 0 where
  pub len : length digest ≡ 32
  pub bytes : All (λ byte. byte < 256) digest

-- the digest of a position that has no leaf
abbrev pub no_digest : List ℕ
no_digest = replicate 32 0

-- what is hashed for leaf m
abbrev pub leaf_string : ℕ → List ℕ → List ℕ
leaf_string m bytes = 0 ∷ m ∷ bytes

abbrev pub leaf_digest : ℕ → List ℕ → List ℕ
leaf_digest m bytes = sha256 (leaf_string m bytes)

-- what is hashed for a node above two others
abbrev pub inner_string : List ℕ → List ℕ → List ℕ
inner_string left right = 1 ∷ left ++ right

abbrev pub inner_digest : List ℕ → List ℕ → List ℕ
inner_digest left right = sha256 (inner_string left right)

-- the height of a tree of 1 to 16 leaves: the least h with n ≤ 2 ^ h
unfoldable pub height : ℕ → ℕ
height n =
    if nat_le n 1 then 0 else
    if nat_le n 2 then 1 else
    if nat_le n 4 then 2 else
    if nat_le n 8 then 3 else 4

-- The digest at the top of a tree of height h over these leaf digests: that of its two halves. A
-- position past the last leaf counts as no_digest, which pads the leaves to 2 ^ h.
unfoldable pub top_digest : ℕ → List (List ℕ) → List ℕ
top_digest zero digests = slice_index_or digests 0 no_digest
top_digest (suc h) digests = inner_digest (top_digest h (take (2 ^ h) digests)) (top_digest h (drop (2 ^ h) digests))

-- the root of the tree over these leaf digests
abbrev pub root_of : List (List ℕ) → List ℕ
root_of digests = top_digest (height (length digests)) digests

-- the digests of leaves that are numbered from m on
abbrev pub leaf_digests_from : ℕ → List (List ℕ) → List (List ℕ)
leaf_digests_from m [] = []
leaf_digests_from m (leaf ∷ leaves) = leaf_digest m leaf ∷ leaf_digests_from (suc m) leaves

abbrev pub leaf_digests : List (List ℕ) → List (List ℕ)
leaf_digests leaves = leaf_digests_from 0 leaves

-- the root of the tree over these leaves
abbrev pub tree_root : List (List ℕ) → List ℕ
tree_root leaves = root_of (leaf_digests leaves)

-- what is hashed for leaves that are numbered from m on
abbrev pub leaf_strings_from : ℕ → List (List ℕ) → List (List ℕ)
leaf_strings_from m [] = []
leaf_strings_from m (leaf ∷ leaves) = leaf_string m leaf ∷ leaf_strings_from (suc m) leaves

-- what is hashed for the inner nodes of a tree of height h over these leaf digests, those above padding alone too
unfoldable pub inner_strings : ℕ → List (List ℕ) → List (List ℕ)
inner_strings zero digests = []
inner_strings (suc h) digests =
    inner_string (top_digest h (take (2 ^ h) digests)) (top_digest h (drop (2 ^ h) digests))
    ∷ (inner_strings h (take (2 ^ h) digests) ++ inner_strings h (drop (2 ^ h) digests))

-- the strings that are hashed for the tree over these leaves
abbrev pub tree_strings : List (List ℕ) → List (List ℕ)
tree_strings leaves = leaf_strings_from 0 leaves ++ inner_strings (height (length leaves)) (leaf_digests leaves)

-- the digest at position p of level l, where level 0 has the leaves: the top of the tree below it
abbrev pub digest_at : List (List ℕ) → ℕ → ℕ → List ℕ
digest_at digests l p = top_digest l (take (2 ^ l) (drop (2 ^ l * p) digests))

-- the other child of the same parent
abbrev pub sibling : ℕ → ℕ
sibling p = if p % 2 == 0 then p + 1 else p - 1

-- the siblings on the way up from position p of level l, over this many levels
unfoldable pub siblings_from : List (List ℕ) → ℕ → ℕ → ℕ → List (List ℕ)
siblings_from digests zero l p = []
siblings_from digests (suc levels) l p = digest_at digests l (sibling p) ∷ siblings_from digests levels (suc l) (p / 2)
