use Rattle.std.proofs.Common.{◌≡◌, ◌∙◌, ap, arith}
use Rattle.std.proofs.lemmas.Bool.Decides.{nat_tests}
use Rattle.merkle_branch.specs.Digests.{leaf_digests}
use Rattle.coin_deal.proofs.Coins.{same_leaves}
use Rattle.coin_deal.proofs.kept.CoinTree.of.Goals as goal

pub returns-then-eq : goal.returns-then-eq
returns-then-eq c =
    let kept = c.args.self.now in
    let asked = c.args.config.now in
    let n : kept.config.n ≡ asked.n = grind (arith, nat_tests, c.if-eq.ensures) in
    let f : kept.config.f ≡ asked.f = grind (arith, nat_tests, c.if-eq.ensures) in
    let rounds : kept.config.rounds ≡ asked.rounds = grind (arith, nat_tests, c.if-eq.ensures) in
    let seed : kept.config.seed ≡ asked.seed = grind (arith, nat_tests, c.if-eq.ensures) in
    kept.is_of_coin
    ∙ ap leaf_digests (same_leaves kept.config asked kept.epoch kept.lane kept.round c.args.epoch c.args.lane c.args.round n f rounds seed
    c.if-self-epoch.true c.if-self-lane.true c.if-self-round.true)
