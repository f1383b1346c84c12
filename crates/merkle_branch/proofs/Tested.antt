-- The test of a branch says what it is to say.
use Rattle.std.proofs.Common.{◌≡◌, ℕ, true, ◌&&◌, ◌==◌, List, length}
use Rattle.std.specs.Bool.{Decides}
use Rattle.std.specs.Str.{bytes_eq}
use Rattle.std.proofs.lemmas.Bool.Decides.{Decides-eqb, Decides-and, Decides-like}
use Rattle.std.proofs.lemmas.Slice.Eq.{bytes_eq-Decides}
use Rattle.merkle_branch.specs.Digests.{leaf_digest, height}
use Rattle.merkle_branch.specs.Branches.{IsBranch, is_branch, siblings, folded}
use Rattle.merkle_branch.specs.declared.Branch.{Branch}

pub is_branch-Decides : (root : List ℕ) (n m : ℕ) (leaf : List ℕ) (branch : Branch) → Decides (is_branch root n m leaf branch) (IsBranch root n m leaf branch)
unfolding is_branch
is_branch-Decides root n m leaf branch =
    let len = branch.len == height n in
    let whole = length (siblings branch) == height n in
    let folds = bytes_eq (folded m (leaf_digest m leaf) (siblings branch)) root in
    Decides-like (len && whole && folds) (λ h. record { len = h.0.0; whole = h.0.1; folds = h.1 }) (λ h. ((h.len, h.whole), h.folds))
    (Decides-and (len && whole) folds (Decides-and len whole (Decides-eqb branch.len (height n)) (Decides-eqb (length (siblings branch)) (height n)))
    (bytes_eq-Decides (folded m (leaf_digest m leaf) (siblings branch)) root))

pub is_branch-is : (root : List ℕ) (n m : ℕ) (leaf : List ℕ) (branch : Branch) → is_branch root n m leaf branch ≡ true → IsBranch root n m leaf branch
is_branch-is root n m leaf branch = (is_branch-Decides root n m leaf branch).0

pub is_branch-from : (root : List ℕ) (n m : ℕ) (leaf : List ℕ) (branch : Branch) → IsBranch root n m leaf branch → is_branch root n m leaf branch ≡ true
is_branch-from root n m leaf branch = (is_branch-Decides root n m leaf branch).1
