use Rattle.std.proofs.Common.{◌≡◌, ◌≤◌, length, arith}
use Rattle.merkle_branch.proofs.LeavesLemmas.{count_is}
use Rattle.merkle_branch.proofs.TreeLemmas.{front_root}
use Rattle.merkle_branch.proofs.tree.Leaves.root.Goals as goal

pub returns : goal.returns
returns c =
    let a = c.self.inside in
    let counted : a.count ≡ length c.args.self.now = count_is a.count a.digests c.args.self.now c.self.told c.self.view_is c.self.invariant.few in
    let some : 1 ≤ a.count = omega arith in
    let fits : a.count ≤ c.width_of-width.result = rw c.width_of-width.ensures.exact c.height.ensures.enough in
    front_root a.count c.height.result c.width_of-width.result a.digests c.all_nodes-nodes.result c.args.self.now c.self.told (omega arith) c.self.invariant some
    c.height.ensures.exact c.width_of-width.ensures.exact fits c.width_of-width.ensures.small c.all_nodes-nodes.ensures.leaves c.all_nodes-nodes.ensures.parents c.self.view_is
