-- Good shares of a dealt coin are its dealt shares, or two of the strings hashed to check one of them collide.
use Rattle.std.proofs.Common.{◌≡◌, ℕ, suc, ◌+◌, ◌%◌, ◌<◌, ◌≤◌, ◌⊎◌, inl, inr, Bool, List, [], ◌∷◌, ◌++◌, length, get_or, refl, sym, ap, ◌∙◌, subst, arith}
use Rattle.std.specs.List.{All, Any, Contains}
use Rattle.std.proofs.lemmas.List.{get_or-map, get_or_append_left, get_or-append-add, length-append, length-map}
use Rattle.std.proofs.lemmas.List.Elements.{All-nil, All-cons}
use Rattle.std.proofs.lemmas.List.FromFn.{length-map-range_with_len, get_or-map-range_with_len}
use Rattle.hb_base.specs.ByteLists.{AreBytes}
use Rattle.gf_field.specs.Polynomial.{polynomial_at, Interpolates}
use Rattle.gf_field.proofs.Interpolation.{interpolation-only}
use Rattle.merkle_branch.specs.Digests.{leaf_digests}
use Rattle.merkle_branch.specs.Branches.{IsBranch, Collision, branch_of, folded_strings}
use Rattle.merkle_branch.proofs.BranchLemmas.{branch_valid}
use Rattle.merkle_branch.proofs.Binding.{branches_bind}
use Rattle.merkle_branch.proofs.Strings.{branch_strings}
use Rattle.merkle_branch.proofs.TreeBinding.{among_more}
use Rattle.hb_base.specs.Numbers.{Numbers}
use Rattle.coin_deal.specs.Deal.{dealt_word, coin_place, coefficients, coin_leaf, coin_leaves, coin_root, coin_of, dealt_coin, share}
use Rattle.coin_deal.specs.Heard.{HeardShare, IsGood, AreGood, IsChoice, IsCoinOf, points, values, coin_through, coin_strings, checked_strings, Collides}
use Rattle.coin_deal.proofs.Coins.{length-coin_leaves, leaf_at}
use Rattle.coin_deal.proofs.Shares.{no_share, distinct_points, points_bytes, points_values, values_bytes}

-- where each element has one of two properties, all have the first or some has the second
all_or_any : {X : Type 0} (P Q : X → Type 0) (xs : List X) → ((k : ℕ) (d : X) → k < length xs → P (get_or xs k d) ⊎ Q (get_or xs k d)) → All P xs ⊎ Any Q xs
all_or_any P Q [] each = inl (All-nil P)
all_or_any P Q (x ∷ xs) each =
    elim (each 0 x (omega arith)) as (λ _. All P (x ∷ xs) ⊎ Any Q (x ∷ xs)) [
      | inl first ↦ elim (all_or_any P Q xs (λ k d l. each (suc k) d (omega arith))) as (λ _. All P (x ∷ xs) ⊎ Any Q (x ∷ xs)) [
        | inl rest ↦ inl (All-cons P x xs first rest)
        | inr some ↦ inr (suc some.0, some.1, omega (arith, some.2), some.3, some.4)
      ]
      | inr first ↦ inr (0, x, omega arith, refl, first)
    ]

-- the dealt leaf of a node has a branch in the dealt tree
pub leaf_proved : (c : Numbers) (e j r m : ℕ) → c.n ≤ 16 → m < c.n
    → IsBranch (coin_root c e j r) c.n m (coin_leaf c e j r m) (branch_of (leaf_digests (coin_leaves c e j r)) m)
leaf_proved c e j r m few inside =
    let leaves = coin_leaves c e j r in
    let branch = branch_of (leaf_digests leaves) m in
    let size : length leaves ≡ c.n = length-coin_leaves c e j r in
    subst (λ n. IsBranch (coin_root c e j r) n m (coin_leaf c e j r m) branch) size
    (subst (λ l. IsBranch (coin_root c e j r) (length leaves) m l branch) (leaf_at c e j r m inside) (branch_valid leaves m (omega arith) (omega arith)))

-- the share is the one that was dealt
abbrev pub IsDealt : Numbers → ℕ → ℕ → ℕ → HeardShare → Type 0
IsDealt c e j r a = share c e j r a.node ≡ a.share

pub one_dealt : (c : Numbers) (e j r : ℕ) (a : HeardShare) → c.n ≤ 16 → IsGood (coin_root c e j r) c.n a → IsDealt c e j r a ⊎ Collides c e j r a
one_dealt c e j r a few good =
    let m = a.node in
    elim (branches_bind (coin_root c e j r) c.n m (coin_leaf c e j r m) (a.share ∷ a.salt) (branch_of (leaf_digests (coin_leaves c e j r)) m) a.branch
    (leaf_proved c e j r m few good.node) good.branch) as (λ _. IsDealt c e j r a ⊎ Collides c e j r a) [
      | inl same ↦ inl (ap (λ leaf. get_or leaf 0 0) same)
      | inr collision ↦ inr collision
    ]

pub coefficients_bytes : (c : Numbers) (e j r : ℕ) → AreBytes (coefficients c e j r)
coefficients_bytes c e j r k d l =
    let coefficient : ℕ → ℕ = λ i. dealt_word c.seed (coin_place c e j r + i) % 256 in
    let size : length (coefficients c e j r) ≡ c.f + 1 = length-map-range_with_len coefficient 0 (c.f + 1) in
    let is : get_or (coefficients c e j r) k d ≡ coefficient k = get_or-map-range_with_len coefficient 0 (c.f + 1) k k d (omega arith) (omega arith) in
    let small : coefficient k < 256 = omega arith in
    subst (λ x. x < 256) (sym is) small

-- through dealt shares goes the dealt polynomial
dealt_polynomial : (c : Numbers) (e j r : ℕ) (shares : List HeardShare) → length shares ≡ c.f + 1 → All (IsDealt c e j r) shares
    → Interpolates (points shares) (values shares) (coefficients c e j r)
dealt_polynomial c e j r shares count dealt =
    let point : HeardShare → ℕ = λ a. a.node + 1 in
    let value : HeardShare → ℕ = λ a. a.share in
    let points_long : length (points shares) ≡ length shares = length-map shares point in
    let degree : length (coefficients c e j r) ≡ c.f + 1 = length-map-range_with_len _ 0 (c.f + 1) in
    record {
      degree = record { short = omega arith; bytes = coefficients_bytes c e j r };
      passes = λ i l.
          let inside : i < length shares = omega arith in
          ap (polynomial_at (coefficients c e j r)) (get_or-map point shares i no_share 0 inside)
          ∙ dealt i no_share inside
          ∙ sym (get_or-map value shares i no_share 0 inside);
    }

-- of good shares of different nodes any polynomial of their degree gives the coin
pub coin_by : (root : List ℕ) (n : ℕ) (shares : List HeardShare) (cs : List ℕ) → n ≤ 16 → AreGood root n shares → Interpolates (points shares) (values shares) cs
    → coin_of (polynomial_at cs 0) ≡ coin_through shares
coin_by root n shares cs few are h =
    let bytes : AreBytes (points shares) = points_bytes root n shares are few in
    ap coin_of (sym (interpolation-only (points shares) bytes (distinct_points root n shares are) (values shares)
    (values_bytes (points shares) (values shares) cs bytes (points_values shares) h) (points_values shares) cs h 0))

pub dealt : (c : Numbers) (e j r : ℕ) (shares : List HeardShare) → c.n ≤ 16 → IsChoice c e j r shares
    → (coin_through shares ≡ dealt_coin c e j r) ⊎ Any (Collides c e j r) shares
dealt c e j r shares few choice =
    let root = coin_root c e j r in
    let Goal : Type 0 = (coin_through shares ≡ dealt_coin c e j r) ⊎ Any (Collides c e j r) shares in
    elim (all_or_any (IsDealt c e j r) (Collides c e j r) shares
    (λ k d l. one_dealt c e j r (get_or shares k d) few (choice.good.good k d l))) as (λ _. Goal) [
      | inl all ↦ inl (sym (coin_by root c.n shares (coefficients c e j r) few choice.good (dealt_polynomial c e j r shares choice.count all)))
      | inr some ↦ inr some
    ]

pub only_coin : (root : List ℕ) (n : ℕ) (shares : List HeardShare) (coin : Bool) → n ≤ 16 → AreGood root n shares → IsCoinOf shares coin → coin ≡ coin_through shares
only_coin root n shares coin few are is = is.low_bit ∙ coin_by root n shares is.polynomial few are is.through

-- what collides with a branch of the coin's tree collides with the tree
abbrev pub CollidesInTree : Numbers → ℕ → ℕ → ℕ → HeardShare → Type 0
CollidesInTree c e j r a = Collision (coin_strings c e j r) (checked_strings a)

pub in_tree : (c : Numbers) (e j r : ℕ) (a : HeardShare) → c.n ≤ 16 → a.node < c.n → Collides c e j r a → CollidesInTree c e j r a
in_tree c e j r a few inside collides =
    let leaves = coin_leaves c e j r in
    let m = a.node in
    let size : length leaves ≡ c.n = length-coin_leaves c e j r in
    let dealt_strings = folded_strings m (coin_leaf c e j r m) (branch_of (leaf_digests leaves) m) in
    let within : (x : List ℕ) → Contains dealt_strings x → Contains (coin_strings c e j r) x = λ x found.
    branch_strings leaves m x (omega arith) (omega arith)
    (subst (λ leaf. Contains (folded_strings m leaf (branch_of (leaf_digests leaves) m)) x) (sym (leaf_at c e j r m inside)) found)
    in
    among_more dealt_strings (checked_strings a) (coin_strings c e j r) (checked_strings a) within (λ y found. found) collides

any_in_tree : (c : Numbers) (e j r : ℕ) (shares : List HeardShare) → c.n ≤ 16 → IsChoice c e j r shares → Any (Collides c e j r) shares → Any (CollidesInTree c e j r) shares
any_in_tree c e j r shares few choice some =
    let a = some.1 in
    let good : IsGood (coin_root c e j r) c.n a = subst (IsGood (coin_root c e j r) c.n) some.3 (choice.good.good some.0 a some.2) in
    (some.0, a, some.2, some.3, in_tree c e j r a few good.node some.4)

any_left : {X : Type 0} (P : X → Type 0) (xs ys : List X) → Any P xs → Any P (xs ++ ys)
any_left P xs ys some =
    (some.0, some.1, omega (arith, some.2, length-append xs ys), get_or_append_left xs ys some.1 some.0 some.2 ∙ some.3, some.4)

any_right : {X : Type 0} (P : X → Type 0) (xs ys : List X) → Any P ys → Any P (xs ++ ys)
any_right P xs ys some =
    (length xs + some.0, some.1, omega (arith, some.2, length-append xs ys), get_or-append-add xs ys some.0 some.1 ∙ some.3, some.4)

pub one_coin : (c : Numbers) (e j r : ℕ) (first second : List HeardShare) → c.n ≤ 16 → IsChoice c e j r first → IsChoice c e j r second
    → (coin_through first ≡ coin_through second) ⊎ Any (CollidesInTree c e j r) (first ++ second)
one_coin c e j r first second few one other =
    let Goal : Type 0 = (coin_through first ≡ coin_through second) ⊎ Any (CollidesInTree c e j r) (first ++ second) in
    elim (dealt c e j r first few one) as (λ _. Goal) [
      | inl left ↦ elim (dealt c e j r second few other) as (λ _. Goal) [
        | inl right ↦ inl (left ∙ sym right)
        | inr some ↦ inr (any_right (CollidesInTree c e j r) first second (any_in_tree c e j r second few other some))
      ]
      | inr some ↦ inr (any_left (CollidesInTree c e j r) first second (any_in_tree c e j r first few one some))
    ]
