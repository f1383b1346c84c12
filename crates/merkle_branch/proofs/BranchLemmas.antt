-- The branches of a tree lead to its root.
use Rattle.std.proofs.Common.{◌≡◌, ℕ, zero, suc, ◌+◌, ◌-◌, ◌*◌, ◌/◌, ◌%◌, ◌^◌, ◌<◌, ◌≤◌, Bool, true, false, cond, eqb, List, [], ◌∷◌, ◌++◌, length, get_or, replicate, refl, sym, ap, ◌∙◌, arith}
use Rattle.std.proofs.lemmas.List.{take_at, drop_at, length-replicate, length-append}
use Rattle.std.proofs.lemmas.Bool.Decides.{nat_tests}
use Rattle.std.proofs.Math.Nat.{pow-suc}
use Rattle.sha2.specs.Sha256.{sha256}
use Rattle.merkle_branch.specs.Digests.{no_digest, leaf_digest, leaf_digests, leaf_digests_from, inner_string, height, digest_at, tree_root, sibling, siblings_from}
use Rattle.merkle_branch.specs.Branches.{IsBranch, IsPadded, branch_of, siblings, folded, parent_string}
use Rattle.merkle_branch.specs.declared.Branch.{Branch}
use Rattle.merkle_branch.proofs.Levels.{digest_at-zero, digest_at-suc, digest_at-top}
use Rattle.merkle_branch.proofs.LeavesLemmas.{length-leaf_digests_from}
use Rattle.merkle_branch.proofs.HeightLemmas.{height_fits, height_low}

parent_on_side : (digests : List (List ℕ)) (l p half : ℕ) (even : Bool) → (even ≡ true → p ≡ 2 * half) → (even ≡ false → p ≡ 2 * half + 1)
    → cond even (inner_string (digest_at digests l p) (digest_at digests l (cond even (p + 1) (p - 1)))) (inner_string (digest_at digests l (cond even (p + 1) (p - 1))) (digest_at digests l p))
    ≡ inner_string (digest_at digests l (2 * half)) (digest_at digests l (2 * half + 1))
parent_on_side digests l p half true is_even is_odd = ap (λ q. inner_string (digest_at digests l q) (digest_at digests l (q + 1))) (is_even refl)
parent_on_side digests l p half false is_even is_odd =
    let odd : p ≡ 2 * half + 1 = is_odd refl in
    let before : p - 1 ≡ 2 * half = omega arith in
    ap (λ q. inner_string (digest_at digests l q) (digest_at digests l p)) before
    ∙ ap (λ q. inner_string (digest_at digests l (2 * half)) (digest_at digests l q)) odd

-- what is hashed of a node and its sibling
pub string_above : (digests : List (List ℕ)) (l p : ℕ)
    → parent_string p (digest_at digests l p) (digest_at digests l (sibling p)) ≡ inner_string (digest_at digests l (2 * (p / 2))) (digest_at digests l (2 * (p / 2) + 1))
string_above digests l p =
    let even : eqb (p % 2) 0 ≡ true → p ≡ 2 * (p / 2) = λ t. grind (arith, nat_tests) in
    let odd : eqb (p % 2) 0 ≡ false → p ≡ 2 * (p / 2) + 1 = λ t. grind (arith, nat_tests) in
    parent_on_side digests l p (p / 2) (eqb (p % 2) 0) even odd

-- is what their parent has the digest of
pub parent_above : (digests : List (List ℕ)) (l p : ℕ) → sha256 (parent_string p (digest_at digests l p) (digest_at digests l (sibling p))) ≡ digest_at digests (suc l) (p / 2)
parent_above digests l p = ap sha256 (string_above digests l p) ∙ sym (digest_at-suc digests l (p / 2))

pub siblings_fold : (digests : List (List ℕ)) (levels l p : ℕ) → p < 2 ^ levels → folded p (digest_at digests l p) (siblings_from digests levels l p) ≡ digest_at digests (l + levels) 0
unfolding siblings_from
siblings_fold digests zero l p inside =
    let first : p ≡ 0 = omega arith in
    let top : l ≡ l + 0 = omega arith in
    ap (digest_at digests l) first ∙ ap (λ k. digest_at digests k 0) top
siblings_fold digests (suc levels) l p inside =
    let half : p / 2 < 2 ^ levels = omega (arith, pow-suc 2 levels) in
    let same : suc l + levels ≡ l + suc levels = omega arith in
    ap (λ d. folded (p / 2) d (siblings_from digests levels (suc l) (p / 2))) (parent_above digests l p)
    ∙ siblings_fold digests levels (suc l) (p / 2) half
    ∙ ap (λ k. digest_at digests k 0) same

pub length-siblings_from : (digests : List (List ℕ)) (levels l p : ℕ) → length (siblings_from digests levels l p) ≡ levels
unfolding siblings_from
length-siblings_from digests zero l p = refl
length-siblings_from digests (suc levels) l p = ap suc (length-siblings_from digests levels (suc l) (p / 2))

pub get_or-leaf_digests_from : (j i : ℕ) (leaves : List (List ℕ)) → i < length leaves → get_or (leaf_digests_from j leaves) i no_digest ≡ leaf_digest (j + i) (get_or leaves i [])
get_or-leaf_digests_from j i [] inside = absurd (omega arith)
get_or-leaf_digests_from j zero (leaf ∷ leaves) inside = ap (λ k. leaf_digest k leaf) (omega arith)
get_or-leaf_digests_from j (suc i) (leaf ∷ leaves) inside =
    let same : suc j + i ≡ j + suc i = omega arith in
    get_or-leaf_digests_from (suc j) i leaves (omega arith) ∙ ap (λ k. leaf_digest k (get_or leaves i [])) same

pub siblings-branch_of : (digests : List (List ℕ)) (m : ℕ) → siblings (branch_of digests m) ≡ siblings_from digests (height (length digests)) 0 m
siblings-branch_of digests m = take_at _ _ _ (length-siblings_from digests (height (length digests)) 0 m)

abbrev pub with_digests : ℕ → List (List ℕ) → Branch
with_digests len digests = record { len = len; digests = digests }

-- a branch of all siblings is the one that the tree has
pub branch_made : (digests taken : List (List ℕ)) (h m : ℕ) → h ≡ height (length digests) → taken ≡ siblings_from digests h 0 m ++ replicate (4 - h) no_digest
    → with_digests h taken ≡ branch_of digests m
branch_made digests taken h m is e =
    ap (with_digests h) e ∙ ap (λ k. with_digests k (siblings_from digests k 0 m ++ replicate (4 - k) no_digest)) is

pub branch_padded : (digests : List (List ℕ)) (m : ℕ) → IsPadded (branch_of digests m)
branch_padded digests m =
    let h = height (length digests) in
    let low : h ≤ 4 = height_low (length digests) in
    let taken : length (siblings_from digests h 0 m) ≡ h = length-siblings_from digests h 0 m in
    record {
      len = low;
      entries = omega (arith, length-append (siblings_from digests h 0 m) (replicate (4 - h) no_digest), length-replicate (4 - h) no_digest);
      rest = drop_at _ _ _ taken;
    }

pub branch_valid : (leaves : List (List ℕ)) (m : ℕ) → length leaves ≤ 16 → m < length leaves
    → IsBranch (tree_root leaves) (length leaves) m (get_or leaves m []) (branch_of (leaf_digests leaves) m)
branch_valid leaves m few inside =
    let digests = leaf_digests leaves in
    let count : length digests ≡ length leaves = length-leaf_digests_from 0 leaves in
    let h = height (length digests) in
    let same_height : h ≡ height (length leaves) = ap height count in
    let fits : length digests ≤ 2 ^ h = height_fits (length digests) (omega arith) in
    let taken : siblings (branch_of digests m) ≡ siblings_from digests h 0 m = siblings-branch_of digests m in
    let leaf : digest_at digests 0 m ≡ leaf_digest m (get_or leaves m []) =
    digest_at-zero digests m ∙ get_or-leaf_digests_from 0 m leaves inside ∙ ap (λ i. leaf_digest i (get_or leaves m [])) (omega arith)
    in
    record {
      len = same_height;
      whole = ap length taken ∙ length-siblings_from digests h 0 m ∙ same_height;
      folds = ap (folded m (leaf_digest m (get_or leaves m []))) taken
          ∙ ap (λ d. folded m d (siblings_from digests h 0 m)) (sym leaf)
          ∙ siblings_fold digests h 0 m (omega arith)
          ∙ ap (λ k. digest_at digests k 0) (omega arith)
          ∙ digest_at-top digests h fits;
    }
