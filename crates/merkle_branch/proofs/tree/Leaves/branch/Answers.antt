use Rattle.std.proofs.Common.{◌≡◌, ◌≤◌, ◌∙◌, ap, length, arith}
use Rattle.merkle_branch.specs.Branches.{branch_of}
use Rattle.merkle_branch.proofs.LeavesLemmas.{count_is}
use Rattle.merkle_branch.proofs.TreeLemmas.{front_built, front_view}
use Rattle.merkle_branch.proofs.tree.Leaves.branch.Goals as goal

pub branch_in-requires-clause-tree : goal.branch_in-requires-clause-tree
branch_in-requires-clause-tree c =
    let a = c.self.inside in
    let counted : a.count ≡ length c.args.self.now = count_is a.count a.digests c.args.self.now c.self.told c.self.view_is c.self.invariant.few in
    let some : 1 ≤ a.count = omega (arith, c.requires) in
    let fits : a.count ≤ c.width_of-width.result = rw c.width_of-width.ensures.exact c.height-height.ensures.enough in
    front_built a.count c.height-height.result c.width_of-width.result a.digests c.all_nodes-nodes.result c.args.self.now c.self.told (omega arith) c.self.invariant some
    c.height-height.ensures.exact c.width_of-width.ensures.exact fits c.width_of-width.ensures.small c.all_nodes-nodes.ensures.leaves c.all_nodes-nodes.ensures.parents c.self.view_is

pub returns : goal.returns
returns c =
    let a = c.self.inside in
    let counted : a.count ≡ length c.args.self.now = count_is a.count a.digests c.args.self.now c.self.told c.self.view_is c.self.invariant.few in
    let some : 1 ≤ a.count = omega (arith, c.requires) in
    let fits : a.count ≤ c.width_of-width.result = rw c.width_of-width.ensures.exact c.height-height.ensures.enough in
    c.branch_in.ensures
    ∙ ap (λ ds. branch_of ds c.args.m)
    (front_view a.count c.height-height.result c.width_of-width.result a.digests c.all_nodes-nodes.result c.args.self.now c.self.told (omega arith) c.self.invariant some
    c.height-height.ensures.exact c.width_of-width.ensures.exact fits c.width_of-width.ensures.small c.all_nodes-nodes.ensures.leaves c.all_nodes-nodes.ensures.parents c.self.view_is)
