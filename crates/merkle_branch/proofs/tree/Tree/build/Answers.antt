use Rattle.std.proofs.Common.{◌≡◌, ◌≤◌, length, arith}
use Rattle.merkle_branch.proofs.LeavesLemmas.{count_is}
use Rattle.merkle_branch.proofs.TreeLemmas.{front_built, front_view}
use Rattle.merkle_branch.proofs.tree.Tree.build.Goals as goal
use Rattle.merkle_branch.proofs.tree.Tree.build.Goals.{In_ok-from_slice}

some : (c : In_ok-from_slice) → 1 ≤ c.leaves.inside.count
some c =
    let a = c.leaves.inside in
    let counted : a.count ≡ length c.args.leaves.now = count_is a.count a.digests c.args.leaves.now c.leaves.told c.leaves.view_is c.leaves.invariant.few in
    omega arith

fits : (c : In_ok-from_slice) → c.leaves.inside.count ≤ c.width_of-width.result
fits c = rw c.width_of-width.ensures.exact c.height-height.ensures.enough

pub invariant_of-result : goal.invariant_of-result
invariant_of-result c =
    let a = c.leaves.inside in
    rw c.in_ok-from_slice.ensures.items
    (front_built a.count c.height-height.result c.width_of-width.result a.digests c.all_nodes-nodes.result c.args.leaves.now c.leaves.told (omega arith) c.leaves.invariant (some c)
    c.height-height.ensures.exact c.width_of-width.ensures.exact (fits c) c.width_of-width.ensures.small c.all_nodes-nodes.ensures.leaves c.all_nodes-nodes.ensures.parents c.leaves.view_is)

pub returns : goal.returns
returns c =
    let a = c.leaves.inside in
    rw c.in_ok-from_slice.ensures.items
    (front_view a.count c.height-height.result c.width_of-width.result a.digests c.all_nodes-nodes.result c.args.leaves.now c.leaves.told (omega arith) c.leaves.invariant (some c)
    c.height-height.ensures.exact c.width_of-width.ensures.exact (fits c) c.width_of-width.ensures.small c.all_nodes-nodes.ensures.leaves c.all_nodes-nodes.ensures.parents c.leaves.view_is)
