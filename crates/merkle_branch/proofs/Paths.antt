-- A tree's branches have the form of a branch: digests of 32 bytes.
use Rattle.std.proofs.Common.{◌≡◌, ℕ, zero, suc, ◌*◌, ◌/◌, ◌^◌, ◌<◌, List, [], ◌∷◌, length, take, drop, refl, sym, subst, arith}
use Rattle.std.specs.List.{All, AllByRecursion}
use Rattle.std.specs.Int.{w32, to_be_bytes, bytes_high_first, byte_at}
use Rattle.std.specs.Prelude.{slice_index}
use Rattle.std.proofs.lemmas.List.Elements.{All-take, All-drop, All-head, All-cons, All-nil, All-append, All-replicate}
use Rattle.sha2.specs.Sha256.{sha256, digest_bytes, final_hash, initial_hash_256}
use Rattle.sha2.proofs.Facts256.{length-sha256}
use Rattle.merkle_branch.specs.Digests.{IsDigest, no_digest, leaf_string, leaf_digest, leaf_digests, leaf_digests_from, inner_string, top_digest, tree_root, height, digest_at, sibling, siblings_from}
use Rattle.merkle_branch.specs.Branches.{IsPath, branch_of}
use Rattle.merkle_branch.proofs.LeavesLemmas.{length-leaf_digests_from}
use Rattle.merkle_branch.proofs.BranchLemmas.{branch_padded, siblings-branch_of}

pub byte_at-small : (i n : ℕ) → byte_at i n < 256
byte_at-small zero n = omega arith
byte_at-small (suc i) n = omega arith

high_bytes : (k n : ℕ) → All (λ byte. byte < 256) (bytes_high_first k n)
high_bytes zero n = All-nil (λ byte. byte < 256)
high_bytes (suc k) n = All-cons (λ byte. byte < 256) (byte_at k n) (bytes_high_first k n) (byte_at-small k n) (high_bytes k n)

digest_bytes-bytes : (h : List ℕ) (n : ℕ) → All (λ byte. byte < 256) (digest_bytes h n)
unfolding digest_bytes
digest_bytes-bytes h zero = All-nil (λ byte. byte < 256)
digest_bytes-bytes h (suc n) =
    All-append (λ byte. byte < 256) (digest_bytes h n) (to_be_bytes w32 (slice_index h n)) (digest_bytes-bytes h n) (high_bytes 4 (slice_index h n))

pub is_digest : (string : List ℕ) → IsDigest (sha256 string)
unfolding sha256
is_digest string = record { len = length-sha256 string; bytes = digest_bytes-bytes (final_hash initial_hash_256 string) 8 }

pub no_digest-is : IsDigest no_digest
no_digest-is = record { len = refl; bytes = All-replicate (λ byte. byte < 256) 32 0 (omega arith) }

pub leaf_digests_are : (m : ℕ) (leaves : List (List ℕ)) → All IsDigest (leaf_digests_from m leaves)
leaf_digests_are m [] = All-nil IsDigest
leaf_digests_are m (leaf ∷ leaves) = All-cons IsDigest (leaf_digest m leaf) (leaf_digests_from (suc m) leaves) (is_digest (leaf_string m leaf)) (leaf_digests_are (suc m) leaves)

pub top_is_digest : (h : ℕ) (digests : List (List ℕ)) → All IsDigest digests → IsDigest (top_digest h digests)
unfolding top_digest
top_is_digest zero [] are = no_digest-is
top_is_digest zero (digest ∷ digests) are = All-head IsDigest digest digests are
top_is_digest (suc h) digests are = is_digest (inner_string (top_digest h (take (2 ^ h) digests)) (top_digest h (drop (2 ^ h) digests)))

pub root_long : (leaves : List (List ℕ)) → length (tree_root leaves) ≡ 32
root_long leaves = (top_is_digest (height (length (leaf_digests leaves))) (leaf_digests leaves) (leaf_digests_are 0 leaves)).len

digest_at-is : (digests : List (List ℕ)) (l p : ℕ) → All IsDigest digests → IsDigest (digest_at digests l p)
digest_at-is digests l p are =
    top_is_digest l (take (2 ^ l) (drop (2 ^ l * p) digests)) (All-take IsDigest (2 ^ l) (drop (2 ^ l * p) digests) (All-drop IsDigest (2 ^ l * p) digests are))

siblings_are : (digests : List (List ℕ)) (levels l p : ℕ) → All IsDigest digests → AllByRecursion IsDigest (siblings_from digests levels l p)
unfolding siblings_from
siblings_are digests zero l p are = tt
siblings_are digests (suc levels) l p are = (digest_at-is digests l (sibling p) are, siblings_are digests levels (suc l) (p / 2) are)

pub path_of : (digests : List (List ℕ)) (m : ℕ) → All IsDigest digests → IsPath (length digests) (branch_of digests m)
path_of digests m are =
    record {
      len = refl;
      padded = branch_padded digests m;
      digests = subst (AllByRecursion IsDigest) (sym (siblings-branch_of digests m)) (siblings_are digests (height (length digests)) 0 m are);
    }

-- the branches of a tree of leaves
pub branch_path : (leaves : List (List ℕ)) (m : ℕ) → IsPath (length leaves) (branch_of (leaf_digests leaves) m)
branch_path leaves m =
    subst (λ n. IsPath n (branch_of (leaf_digests leaves) m)) (length-leaf_digests_from 0 leaves) (path_of (leaf_digests leaves) m (leaf_digests_are 0 leaves))
