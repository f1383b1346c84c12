use Rattle.std.proofs.Common.{◌≡◌, ap, ◌∙◌, length, arith}
use Rattle.merkle_branch.proofs.LeavesLemmas.{length-leaf_digests_from}
use Rattle.coin_deal.specs.Deal.{coin_leaves}
use Rattle.coin_deal.proofs.Coins.{length-coin_leaves}
use Rattle.coin_deal.proofs.dealt.Deal.branch_from.Goals as goal

pub branch-tree-requires : goal.branch-tree-requires
branch-tree-requires c =
    let n = c.args.self.now in
    let leaves = coin_leaves n c.args.e c.args.j c.args.r in
    let count : length c.in-Some.tree.now ≡ n.n = ap length c.in-Some.ensures ∙ length-leaf_digests_from 0 leaves ∙ length-coin_leaves n c.args.e c.args.j c.args.r in
    omega (arith, c.requires.node)
