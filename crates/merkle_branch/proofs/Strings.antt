-- The strings that a tree's branch folds are strings of the tree.
use Rattle.std.proofs.Common.{◌≡◌, ℕ, zero, suc, ◌+◌, ◌-◌, ◌*◌, ◌/◌, ◌^◌, ◌<◌, ◌≤◌, List, [], ◌∷◌, ◌++◌, length, take, drop, get_or, sym, ap, ◌∙◌, subst, arith, inl, inr, ◌⊎◌, Contains, pow-add}
use Rattle.std.specs.List.{All}
use Rattle.std.proofs.lemmas.List.{take-take, drop-take, drop-drop, take_all, length-take, length-drop}
use Rattle.std.proofs.lemmas.List.Elements.{All-nil, All-cons, All-weaker, All-contains, Contains-append_left, Contains-append_right}
use Rattle.std.proofs.lemmas.Bool.{cases_lt}
use Rattle.std.proofs.Math.Nat.{pow-suc, mul-le-mul_left, mul-add, mul_assoc}
use Rattle.sha2.specs.Sha256.{sha256}
use Rattle.merkle_branch.specs.Digests.{leaf_string, leaf_digest, leaf_digests, leaf_strings_from, inner_string, inner_strings, tree_strings, tree_root, top_digest, height, digest_at, sibling, siblings_from}
use Rattle.merkle_branch.specs.Branches.{IsBranch, Collision, branch_of, siblings, folded_strings, parent_string, parent_strings}
use Rattle.merkle_branch.specs.declared.Branch.{Branch}
use Rattle.merkle_branch.proofs.Binding.{branches_bind}
use Rattle.merkle_branch.proofs.BranchLemmas.{string_above, parent_above, siblings-branch_of, branch_valid, get_or-leaf_digests_from}
use Rattle.merkle_branch.proofs.HeightLemmas.{height_fits}
use Rattle.merkle_branch.proofs.LeavesLemmas.{length-leaf_digests_from}
use Rattle.merkle_branch.proofs.Levels.{digest_at-zero}
use Rattle.merkle_branch.proofs.TreeBinding.{among_more}

-- a list with one string more in front
contains_later : (x : List ℕ) (xs : List (List ℕ)) (y : List ℕ) → Contains xs y → Contains (x ∷ xs) y
contains_later x xs y c = (suc c.0, omega (arith, c.1), c.2)

-- a node that lies whole in the first k positions
digest_at-take : (digests : List (List ℕ)) (k l p : ℕ) → 2 ^ l * p + 2 ^ l ≤ k → digest_at (take k digests) l p ≡ digest_at digests l p
digest_at-take digests k l p inside =
    let start = 2 ^ l * p in
    let rest : k ≡ start + (k - start) = omega arith in
    ap (λ n. top_digest l (take (2 ^ l) (drop start (take n digests)))) rest
    ∙ ap (λ xs. top_digest l (take (2 ^ l) xs)) (drop-take start (k - start) digests)
    ∙ ap (top_digest l) (take-take (2 ^ l) (k - start) (drop start digests) (omega arith))

-- a node behind the first k positions
digest_at-drop : (digests : List (List ℕ)) (k l p q : ℕ) → k + 2 ^ l * p ≡ 2 ^ l * q → digest_at (drop k digests) l p ≡ digest_at digests l q
digest_at-drop digests k l p q place =
    ap (λ xs. top_digest l (take (2 ^ l) xs)) (drop-drop (2 ^ l * p) k digests) ∙ ap (λ n. top_digest l (take (2 ^ l) (drop n digests))) place

-- the places of two children, of w positions each, below half the parents
children_inside : (w q half : ℕ) → q < half → (w * (2 * q) + w ≤ w * half * 2) × (w * (2 * q + 1) + w ≤ w * half * 2)
children_inside w q half below =
    let whole : w * half * 2 ≡ w * (half * 2) = mul_assoc w half 2 in
    let left : w * (2 * q + 1) ≡ w * (2 * q) + w * 1 = mul-add w (2 * q) 1 in
    let right : w * (2 * q + 1 + 1) ≡ w * (2 * q + 1) + w * 1 = mul-add w (2 * q + 1) 1 in
    let fits : 2 * q + 1 + 1 ≤ half * 2 = omega arith in
    let high : w * (2 * q + 1 + 1) ≤ w * (half * 2) = mul-le-mul_left w fits in
    (omega arith, omega arith)

-- and behind them
place_behind : (w half p q : ℕ) → q ≡ half * 2 + p → w * half * 2 + w * p ≡ w * q
place_behind w half p q is = ap (λ n. n + w * p) (mul_assoc w half 2) ∙ sym (mul-add w (half * 2) p) ∙ ap (λ n. w * n) (sym is)

-- the string of a node's two children
abbrev children : List (List ℕ) → ℕ → ℕ → List ℕ
children digests l q = inner_string (digest_at digests l (2 * q)) (digest_at digests l (2 * q + 1))

-- each inner node's string is one of the tree's
node_inside : (above h l q : ℕ) (digests : List (List ℕ)) → h ≡ l + above → q < 2 ^ above → length digests ≤ 2 ^ suc h → Contains (inner_strings (suc h) digests) (children digests l q)
unfolding inner_strings
node_inside zero h l q digests is inside few =
    let k = 2 ^ h in
    let double : 2 ^ suc h ≡ k * 2 = pow-suc 2 h in
    let level : h ≡ l = omega arith in
    let first : q ≡ 0 = omega arith in
    let below = inner_strings h (take k digests) ++ inner_strings h (drop k digests) in
    let start : k * 0 ≡ 0 = omega arith in
    let middle : k * 1 ≡ k = omega arith in
    let left : digest_at digests h 0 ≡ top_digest h (take k digests) = ap (λ n. top_digest h (take k (drop n digests))) start in
    let right : digest_at digests h 1 ≡ top_digest h (drop k digests) =
    ap (λ n. top_digest h (take k (drop n digests))) middle ∙ ap (top_digest h) (take_all k (drop k digests) (omega (arith, length-drop k digests)))
    in
    let top : inner_string (top_digest h (take k digests)) (top_digest h (drop k digests)) ≡ children digests l q =
    ap (λ d. inner_string d (top_digest h (drop k digests))) (sym left)
    ∙ ap (λ d. inner_string (digest_at digests h 0) d) (sym right)
    ∙ ap (λ n. children digests n 0) level
    ∙ ap (λ n. children digests l n) (sym first)
    in
    (0, omega arith, top)
node_inside (suc above) zero l q digests is inside few = absurd (omega arith)
node_inside (suc above) (suc h) l q digests is inside few =
    let k = 2 ^ suc h in
    let w = 2 ^ l in
    let half = 2 ^ above in
    let double : 2 ^ suc (suc h) ≡ k * 2 = pow-suc 2 (suc h) in
    let double_above : 2 ^ suc above ≡ half * 2 = pow-suc 2 above in
    let levels : h ≡ l + above = omega arith in
    let width : k ≡ w * half * 2 = pow-suc 2 h ∙ ap (λ n. 2 ^ n * 2) levels ∙ ap (λ n. n * 2) (pow-add 2 l above) in
    let first = inner_strings (suc h) (take k digests) in
    let second = inner_strings (suc h) (drop k digests) in
    let root = inner_string (top_digest (suc h) (take k digests)) (top_digest (suc h) (drop k digests)) in
    elim (cases_lt q half) as (λ _. Contains (root ∷ (first ++ second)) (children digests l q)) [
      | inl below ↦
          let fits = children_inside w q half below in
          let same : children (take k digests) l q ≡ children digests l q =
          ap (λ d. inner_string d (digest_at (take k digests) l (2 * q + 1))) (digest_at-take digests k l (2 * q) (rw width fits.0))
          ∙ ap (λ d. inner_string (digest_at digests l (2 * q)) d) (digest_at-take digests k l (2 * q + 1) (rw width fits.1))
          in
          let there : Contains first (children (take k digests) l q) = node_inside above h l q (take k digests) levels below (omega (arith, length-take k digests)) in
          contains_later root (first ++ second) (children digests l q) (Contains-append_left first second (children digests l q) (subst (Contains first) same there))
      | inr above_half ↦
          let r = q - half in
          let there : Contains second (children (drop k digests) l r) =
          node_inside above h l r (drop k digests) levels (omega arith) (omega (arith, length-drop k digests))
          in
          let same : children (drop k digests) l r ≡ children digests l q =
          ap (λ d. inner_string d (digest_at (drop k digests) l (2 * r + 1))) (digest_at-drop digests k l (2 * r) (2 * q) (rw width (place_behind w half (2 * r) (2 * q) (omega arith))))
          ∙ ap (λ d. inner_string (digest_at digests l (2 * q)) d) (digest_at-drop digests k l (2 * r + 1) (2 * q + 1) (rw width (place_behind w half (2 * r + 1) (2 * q + 1) (omega arith))))
          in
          contains_later root (first ++ second) (children digests l q) (Contains-append_right first second (children digests l q) (subst (Contains second) same there))
    ]

parents_inside : (digests : List (List ℕ)) (levels h l p : ℕ) → l + levels ≡ h → p < 2 ^ levels → length digests ≤ 2 ^ h
    → All (Contains (inner_strings h digests)) (parent_strings p (digest_at digests l p) (siblings_from digests levels l p))
unfolding siblings_from
parents_inside digests zero h l p is inside few = All-nil (Contains (inner_strings h digests))
parents_inside digests (suc levels) zero l p is inside few = absurd (omega arith)
parents_inside digests (suc levels) (suc h) l p is inside few =
    let double : 2 ^ suc levels ≡ 2 ^ levels * 2 = pow-suc 2 levels in
    let half : p / 2 < 2 ^ levels = omega arith in
    let string = parent_string p (digest_at digests l p) (digest_at digests l (sibling p)) in
    let strings : ℕ → List ℕ → List (List ℕ) = λ q d. parent_strings q d (siblings_from digests levels (suc l) (p / 2)) in
    let here : Contains (inner_strings (suc h) digests) string =
    subst (Contains (inner_strings (suc h) digests)) (sym (string_above digests l p)) (node_inside levels h l (p / 2) digests (omega arith) half few)
    in
    let rest : All (Contains (inner_strings (suc h) digests)) (strings (p / 2) (sha256 string)) =
    subst (λ d. All (Contains (inner_strings (suc h) digests)) (strings (p / 2) d)) (sym (parent_above digests l p)) (parents_inside digests levels (suc h) (suc l) (p / 2) (omega arith) half few)
    in
    All-cons (Contains (inner_strings (suc h) digests)) string (strings (p / 2) (sha256 string)) here rest

leaf_inside : (j m : ℕ) (leaves : List (List ℕ)) → m < length leaves → Contains (leaf_strings_from j leaves) (leaf_string (j + m) (get_or leaves m []))
leaf_inside j m [] inside = absurd (omega arith)
leaf_inside j zero (leaf ∷ leaves) inside = (0, omega arith, ap (λ k. leaf_string k leaf) (omega arith))
leaf_inside j (suc m) (leaf ∷ leaves) inside =
    let same : suc j + m ≡ j + suc m = omega arith in
    contains_later (leaf_string j leaf) (leaf_strings_from (suc j) leaves) (leaf_string (j + suc m) (get_or leaves m []))
    (subst (λ k. Contains (leaf_strings_from (suc j) leaves) (leaf_string k (get_or leaves m []))) same (leaf_inside (suc j) m leaves (omega arith)))

pub branch_strings : (leaves : List (List ℕ)) (m : ℕ) (string : List ℕ) → length leaves ≤ 16 → m < length leaves
    → Contains (folded_strings m (get_or leaves m []) (branch_of (leaf_digests leaves) m)) string → Contains (tree_strings leaves) string
branch_strings leaves m string few inside found =
    let digests = leaf_digests leaves in
    let count : length digests ≡ length leaves = length-leaf_digests_from 0 leaves in
    let leaf = get_or leaves m [] in
    let h = height (length leaves) in
    let fits : length leaves ≤ 2 ^ h = height_fits (length leaves) few in
    let inner = inner_strings h digests in
    let start : digest_at digests 0 m ≡ leaf_digest m leaf =
    digest_at-zero digests m ∙ get_or-leaf_digests_from 0 m leaves inside ∙ ap (λ i. leaf_digest i leaf) (omega arith)
    in
    let taken : siblings_from digests h 0 m ≡ siblings (branch_of digests m) = ap (λ n. siblings_from digests (height n) 0 m) (sym count) ∙ sym (siblings-branch_of digests m) in
    let above : All (Contains inner) (parent_strings m (leaf_digest m leaf) (siblings (branch_of digests m))) =
    subst (λ s. All (Contains inner) (parent_strings m (leaf_digest m leaf) s)) taken
    (subst (λ d. All (Contains inner) (parent_strings m d (siblings_from digests h 0 m))) start (parents_inside digests h h 0 m (omega arith) (omega arith) (omega arith)))
    in
    let bottom : Contains (leaf_strings_from 0 leaves) (leaf_string m leaf) =
    subst (λ k. Contains (leaf_strings_from 0 leaves) (leaf_string k leaf)) (omega arith) (leaf_inside 0 m leaves inside)
    in
    let parents = parent_strings m (leaf_digest m leaf) (siblings (branch_of digests m)) in
    All-contains (Contains (tree_strings leaves)) (leaf_string m leaf ∷ parents) string
    (All-cons (Contains (tree_strings leaves)) (leaf_string m leaf) parents (Contains-append_left (leaf_strings_from 0 leaves) inner (leaf_string m leaf) bottom)
    (All-weaker (Contains inner) (Contains (tree_strings leaves)) (Contains-append_right (leaf_strings_from 0 leaves) inner) parents above)) found

-- a branch of a tree's root proves the tree's leaf, or two strings collide
pub leaf_binds : (leaves : List (List ℕ)) (m : ℕ) (leaf : List ℕ) (branch : Branch) → length leaves ≤ 16 → m < length leaves
    → IsBranch (tree_root leaves) (length leaves) m leaf branch → (get_or leaves m [] ≡ leaf) ⊎ Collision (tree_strings leaves) (folded_strings m leaf branch)
leaf_binds leaves m leaf branch few inside is =
    let own = branch_of (leaf_digests leaves) m in
    let Goal : Type 0 = (get_or leaves m [] ≡ leaf) ⊎ Collision (tree_strings leaves) (folded_strings m leaf branch) in
    elim (branches_bind (tree_root leaves) (length leaves) m (get_or leaves m []) leaf own branch (branch_valid leaves m few inside) is) as (λ _. Goal) [
      | inl same ↦ inl same
      | inr collision ↦ inr (among_more (folded_strings m (get_or leaves m []) own) (folded_strings m leaf branch) (tree_strings leaves) (folded_strings m leaf branch)
          (λ x found. branch_strings leaves m x few inside found) (λ y found. found) collision)
    ]
