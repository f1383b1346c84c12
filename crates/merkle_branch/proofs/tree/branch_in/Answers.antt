use Rattle.std.proofs.Common.{◌≡◌, ◌<◌, ◌≤◌, ◌+◌, ◌^◌, ◌∙◌, ap, sym, length, ◌*◌, take, List, [], ℕ, get_or, arith, refl}
use Rattle.std.proofs.lemmas.List.{get_or_default, length-take-le}
use Rattle.merkle_branch.specs.Digests.{no_digest, height, sibling, digest_at}
use Rattle.merkle_branch.proofs.HeightLemmas.{height_low, height_fits}
use Rattle.merkle_branch.proofs.Climbing.{climb_begins, climb_goes_on, climb_ends, sibling_at, place_inside}
use Rattle.merkle_branch.proofs.BranchLemmas.{branch_made}
use Rattle.merkle_branch.proofs.tree.branch_in.Goals as goal
use Rattle.merkle_branch.specs.Shapes.{HasAllLevels}

low : (count h : ℕ) → h ≡ height count → h ≤ 4
low count h is = rw is (height_low count)

counted : (count h : ℕ) (nodes : List (List ℕ)) → HasAllLevels count h nodes → length (take count nodes) ≡ count
counted count h nodes tree =
    let total : length nodes + 1 ≡ 2 * 2 ^ h = tree.size in
    let fits : count ≤ 2 ^ h = rw tree.is_height (height_fits count tree.few) in
    let some : 1 ≤ count = tree.some in
    length-take-le count nodes (omega arith)

pub width_of-width-requires : goal.width_of-width-requires
width_of-width-requires c = low c.args._count c.args.height c.requires.tree.is_height

pub loop-level-init : goal.loop-level-init
loop-level-init c =
    let tree = c.requires.tree in
    let fits : c.args._count ≤ 2 ^ c.args.height = rw tree.is_height (height_fits c.args._count tree.few) in
    climb_begins (take c.args._count c.args.nodes.now) _ c.args.height c.args.m c.width_of-width.result c.width_of-width.ensures.exact
    (omega (arith, c.width_of-width.ensures.exact)) refl

pub bounds-nodes-start : goal.bounds-nodes-start
bounds-nodes-start c =
    let s = c.loop-level in
    let inside : s.start + sibling s.position < length c.args.nodes.now =
    place_inside c.args._count c.args.height c.args.m s.level s.start s.width s.position c.args.nodes.now (take c.args._count c.args.nodes.now) s.digests
    c.requires.tree c.loop-level-test.true s.invariant
    in
    rw c.sibling_of.ensures (omega arith)

pub bounds-digests-level : goal.bounds-digests-level
bounds-digests-level c = omega (arith, low c.args._count c.args.height c.requires.tree.is_height)

pub returns : goal.returns
returns c =
    let s = c.loop-level in
    let leaves = take c.args._count c.args.nodes.now in
    let ends : s.level ≡ c.args.height = omega arith in
    branch_made leaves s.digests c.args.height c.args.m
    (c.requires.tree.is_height ∙ ap height (sym (counted c.args._count c.args.height c.args.nodes.now c.requires.tree)))
    (climb_ends leaves s.digests c.args.height c.args.m s.level s.start s.width s.position ends s.invariant)

pub loop-level-preserved : goal.loop-level-preserved
loop-level-preserved c =
    let s = c.loop-level in
    let nodes = c.args.nodes.now in
    let leaves = take c.args._count nodes in
    let place : s.start + c.sibling_of.result ≡ s.start + sibling s.position = ap (λ k. s.start + k) c.sibling_of.ensures in
    let inside : s.start + sibling s.position < length nodes =
    place_inside c.args._count c.args.height c.args.m s.level s.start s.width s.position nodes leaves s.digests c.requires.tree
    c.loop-level-test.true s.invariant
    in
    let read : get_or nodes (s.start + c.sibling_of.result) [] ≡ get_or nodes (s.start + sibling s.position) no_digest =
    ap (λ k. get_or nodes k []) place ∙ get_or_default nodes (s.start + sibling s.position) [] no_digest inside
    in
    let is : get_or nodes (s.start + c.sibling_of.result) [] ≡ digest_at leaves s.level (sibling s.position) =
    read
    ∙ sibling_at c.args._count c.args.height c.args.m s.level s.start s.width s.position nodes leaves s.digests c.requires.tree refl
    c.loop-level-test.true s.invariant
    in
    climb_goes_on leaves s.digests c.args.height c.args.m s.level s.start s.width s.position (get_or nodes (s.start + c.sibling_of.result) [])
    c.loop-level-test.true (low c.args._count c.args.height c.requires.tree.is_height) is s.invariant
