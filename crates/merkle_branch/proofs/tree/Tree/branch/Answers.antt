use Rattle.std.proofs.Common.{◌≡◌, ◌≤◌, ◌+◌, ◌^◌, ◌∙◌, ap, sym, subst, length, ◌*◌, take, List, ℕ, arith}
use Rattle.std.specs.List.{All}
use Rattle.std.proofs.lemmas.List.{length-take-le}
use Rattle.merkle_branch.specs.Digests.{IsDigest, leaf_digests}
use Rattle.merkle_branch.specs.Branches.{branch_of}
use Rattle.merkle_branch.proofs.HeightLemmas.{height_fits}
use Rattle.merkle_branch.proofs.BranchLemmas.{branch_valid}
use Rattle.merkle_branch.proofs.Paths.{path_of}
use Rattle.merkle_branch.proofs.tree.Tree.branch.Goals as goal
use Rattle.merkle_branch.proofs.tree.Tree.branch.Goals.{After-branch_in}
use Rattle.merkle_branch.specs.Shapes.{HasAllLevels}
use Rattle.merkle_branch.proofs.LeavesLemmas.{length-leaf_digests_from}

counted : (count h : ℕ) (nodes now : List (List ℕ)) → HasAllLevels count h nodes → take count nodes ≡ now → length now ≡ count
counted count h nodes now tree view =
    let total : length nodes + 1 ≡ 2 * 2 ^ h = tree.size in
    let fits : count ≤ 2 ^ h = rw tree.is_height (height_fits count tree.few) in
    let some : 1 ≤ count = tree.some in
    ap length (sym view) ∙ length-take-le count nodes (omega arith)

pub branch_in-requires : goal.branch_in-requires
branch_in-requires c =
    let a = c.self.inside in
    let count : length c.args.self.now ≡ a.count = counted a.count a.height a.nodes.items c.args.self.now c.self.invariant c.self.view_is in
    record { tree = subst (HasAllLevels a.count a.height) (sym c.deref.ensures.value) c.self.invariant; leaf = omega (arith, count, c.requires) }

made : (c : After-branch_in) → c.branch_in.result ≡ branch_of c.args.self.now c.args.m
made c =
    c.branch_in.ensures
    ∙ ap (λ ds. branch_of (take c.self.inside.count ds) c.args.m) c.deref.ensures.value
    ∙ ap (λ ds. branch_of ds c.args.m) c.self.view_is

pub returns-clause-exact : goal.returns-clause-exact
returns-clause-exact c = made c

pub returns-clause-path : goal.returns-clause-path
returns-clause-path c =
    let is = made c in
    rw is (path_of c.args.self.now c.args.m (subst (All IsDigest) c.self.view_is c.self.invariant.leaves))

pub returns-clause-valid : goal.returns-clause-valid
returns-clause-valid c = λ leaves held.
    let a = c.self.inside in
    let few : a.count ≤ 16 = c.self.invariant.few in
    let count : length c.args.self.now ≡ a.count = counted a.count a.height a.nodes.items c.args.self.now c.self.invariant c.self.view_is in
    let same : length c.args.self.now ≡ length leaves = ap length held ∙ length-leaf_digests_from 0 leaves in
    let is : c.branch_in.result ≡ branch_of (leaf_digests leaves) c.args.m = made c ∙ ap (λ ds. branch_of ds c.args.m) held in
    rw is (branch_valid leaves c.args.m (omega arith) (omega arith))
