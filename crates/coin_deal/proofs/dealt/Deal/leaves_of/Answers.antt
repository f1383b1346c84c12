use Rattle.std.proofs.Common.{◌≡◌, ap, ap₂, ◌∙◌, length, arith}
use Rattle.merkle_branch.specs.Digests.{leaf_digests}
use Rattle.merkle_branch.proofs.LeavesLemmas.{length-leaf_digests_from}
use Rattle.coin_deal.specs.Deal.{coin_leaves}
use Rattle.coin_deal.specs.Holding.{leaves_with}
use Rattle.coin_deal.proofs.Coins.{coin_leaves_are, length-coin_leaves}
use Rattle.coin_deal.proofs.dealt.Deal.leaves_of.Goals as goal
use Rattle.coin_deal.proofs.dealt.Deal.leaves_of.Goals.{After-leaves_of}

leaves_are : (c : After-leaves_of) → c.leaves_of.result ≡ leaf_digests (coin_leaves c.args.self.now c.args.e c.args.j c.args.r)
leaves_are c =
    c.leaves_of.ensures
    ∙ ap leaf_digests (ap₂ leaves_with c.coefficients_of.ensures c.salts_of.ensures.exact ∙ coin_leaves_are c.args.self.now c.args.e c.args.j c.args.r)

count_is : (c : After-leaves_of) → length c.leaves_of.result ≡ c.args.self.now.n
count_is c =
    let n = c.args.self.now in
    let leaves = coin_leaves n c.args.e c.args.j c.args.r in
    ap length (leaves_are c) ∙ length-leaf_digests_from 0 leaves ∙ length-coin_leaves n c.args.e c.args.j c.args.r

pub returns-clause-leaves : goal.returns-clause-leaves
returns-clause-leaves c = leaves_are c

pub returns-clause-count : goal.returns-clause-count
returns-clause-count c = count_is c

pub returns-clause-some : goal.returns-clause-some
returns-clause-some c = let count : length c.leaves_of.result ≡ c.args.self.now.n = count_is c in omega (arith, c.requires.lane)
