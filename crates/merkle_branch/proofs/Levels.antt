-- The digests of a tree, level by level.
use Rattle.std.proofs.Common.{◌≡◌, ℕ, zero, suc, ◌+◌, ◌-◌, ◌*◌, ◌^◌, ◌<◌, ◌≤◌, List, length, take, drop, get_or, sym, ap, ◌∙◌, arith}
use Rattle.std.proofs.lemmas.List.{get_or-take, get_or-drop, take-take, drop-take, drop-drop, take_all}
use Rattle.merkle_branch.specs.Digests.{no_digest, inner_digest, top_digest, digest_at}
use Rattle.std.proofs.Math.Nat.{pow-suc, pow-le-pow_right}
use Rattle.merkle_branch.specs.Shapes.{level_start, HasParents}

-- a node of level 0 is a leaf's
pub digest_at-zero : (digests : List (List ℕ)) (p : ℕ) → digest_at digests 0 p ≡ get_or digests p no_digest
unfolding top_digest
digest_at-zero digests p =
    get_or-take 1 (drop (1 * p) digests) 0 no_digest (omega arith)
    ∙ get_or-drop (1 * p) digests 0 no_digest
    ∙ ap (λ i. get_or digests i no_digest) (omega arith)

left_half : (digests : List (List ℕ)) (width half p : ℕ) → width ≡ half * 2
    → take half (take width (drop (width * p) digests)) ≡ take half (drop (half * (2 * p)) digests)
left_half digests width half p e =
    take-take half width (drop (width * p) digests) (omega arith)
    ∙ ap (λ i. take half (drop i digests)) (rw e (omega arith))

right_half : (digests : List (List ℕ)) (width half p : ℕ) → width ≡ half * 2
    → drop half (take width (drop (width * p) digests)) ≡ take half (drop (half * (2 * p + 1)) digests)
right_half digests width half p e =
    let whole : width ≡ half + half = omega arith in
    ap (λ w. drop half (take w (drop (width * p) digests))) whole
    ∙ drop-take half half (drop (width * p) digests)
    ∙ ap (take half) (drop-drop half (width * p) digests)
    ∙ ap (λ i. take half (drop i digests)) (rw e (omega arith))

-- a node above level 0 is made of the two below it
pub digest_at-suc : (digests : List (List ℕ)) (l p : ℕ) → digest_at digests (suc l) p ≡ inner_digest (digest_at digests l (2 * p)) (digest_at digests l (2 * p + 1))
unfolding top_digest
digest_at-suc digests l p =
    ap (λ xs. inner_digest (top_digest l xs) (top_digest l (drop (2 ^ l) (take (2 ^ suc l) (drop (2 ^ suc l * p) digests))))) (left_half digests (2 ^ suc l) (2 ^ l) p (pow-suc 2 l))
    ∙ ap (λ xs. inner_digest (digest_at digests l (2 * p)) (top_digest l xs)) (right_half digests (2 ^ suc l) (2 ^ l) p (pow-suc 2 l))

-- the one node of the topmost level is the root
pub digest_at-top : (digests : List (List ℕ)) (h : ℕ) → length digests ≤ 2 ^ h → digest_at digests h 0 ≡ top_digest h digests
digest_at-top digests h fits =
    let start : 2 ^ h * 0 ≡ 0 = omega arith in
    ap (λ i. top_digest h (take (2 ^ h) (drop i digests))) start
    ∙ ap (top_digest h) (take_all (2 ^ h) digests fits)

-- the digests behind each level's start are those of the level, if each stands behind its two children
pub all_levels : (digests nodes : List (List ℕ)) (h : ℕ) → ((p : ℕ) → p < 2 ^ h → get_or nodes p no_digest ≡ get_or digests p no_digest) → HasParents (2 ^ h) nodes
    → (l above p : ℕ) → l + above ≡ h → p < 2 ^ above → get_or nodes (level_start h above + p) no_digest ≡ digest_at digests l p
all_levels digests nodes h leaves parents zero above p levels inside =
    let same : above ≡ h = omega arith in
    let place : level_start h above + p ≡ p = rw same (omega arith) in
    let fits : p < 2 ^ h = rw (← same) inside in
    ap (λ i. get_or nodes i no_digest) place ∙ leaves p fits ∙ sym (digest_at-zero digests p)
all_levels digests nodes h leaves parents (suc l) above p levels inside =
    let below : l + suc above ≡ h = omega arith in
    let double : 2 ^ suc above ≡ 2 ^ above * 2 = pow-suc 2 above in
    let high : 2 ^ suc above ≤ 2 ^ h = pow-le-pow_right (omega arith) (omega arith) in
    let i = 2 ^ h - 2 * 2 ^ above + p in
    let place : level_start h above + p ≡ 2 ^ h + i = omega arith in
    let left : 2 * i ≡ level_start h (suc above) + 2 * p = omega arith in
    let right : 2 * i + 1 ≡ level_start h (suc above) + (2 * p + 1) = omega arith in
    ap (λ k. get_or nodes k no_digest) place
    ∙ parents i (omega arith)
    ∙ ap (λ k. inner_digest (get_or nodes k no_digest) (get_or nodes (2 * i + 1) no_digest)) left
    ∙ ap (λ k. inner_digest (get_or nodes (level_start h (suc above) + 2 * p) no_digest) (get_or nodes k no_digest)) right
    ∙ ap (λ d. inner_digest d (get_or nodes (level_start h (suc above) + (2 * p + 1)) no_digest)) (all_levels digests nodes h leaves parents l (suc above) (2 * p) below (omega arith))
    ∙ ap (inner_digest (digest_at digests l (2 * p))) (all_levels digests nodes h leaves parents l (suc above) (2 * p + 1) below (omega arith))
    ∙ sym (digest_at-suc digests l p)
