use Rattle.std.proofs.Common.{◌≡◌, ℕ, ◌+◌, List, [], ◌∷◌, ◌++◌, length, map, get_or, sym, ap, ◌∙◌, arith}
use Rattle.std.specs.List.{range_with_len}
use Rattle.std.proofs.lemmas.List.FromFn.{map-range_with_len_more, length-map-range_with_len}
use Rattle.gf_field.specs.Polynomial.{polynomial_at}
use Rattle.merkle_branch.specs.Digests.{leaf_digests}
use Rattle.merkle_branch.proofs.LeavesLemmas.{length-leaf_digests_from}
use Rattle.coin_deal.proofs.leaves.leaves_of.Goals as goal

-- as many leaves as nodes
count : (f : ℕ → List ℕ) (m : ℕ) → length (leaf_digests (map f (range_with_len 0 m))) ≡ m
count f m = length-leaf_digests_from 0 (map f (range_with_len 0 m)) ∙ length-map-range_with_len f 0 m

pub add-requires : goal.add-requires
add-requires c =
    let m = c.loop-m.m in
    let taken : length c.loop-m.leaves ≡ m = ap length c.loop-m.invariant ∙ count _ m in
    omega arith

pub loop-m-preserved : goal.loop-m-preserved
loop-m-preserved c =
    let m = c.loop-m.m in
    let cs = c.args.coefficients.now in
    let salts = c.args.salts.now in
    let leaf = λ (m : ℕ). polynomial_at cs (m + 1) ∷ get_or salts m [] in
    let is : c.leaf_of.result ≡ leaf m = c.leaf_of.ensures ∙ ap (λ s. s ∷ get_or salts m []) c.share_at.ensures in
    c.add.ensures.leaves (map leaf (range_with_len 0 m)) c.loop-m.invariant
    ∙ ap leaf_digests (ap (λ x. map leaf (range_with_len 0 m) ++ x ∷ []) is ∙ sym (map-range_with_len_more leaf 0 m m (omega arith)))
