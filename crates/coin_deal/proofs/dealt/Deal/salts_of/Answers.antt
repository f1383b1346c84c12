use Rattle.std.proofs.Common.{rules, ◌∙◌, ap}
use Rattle.hb_base.specs.Numbers.{Numbers}
use Rattle.coin_deal.specs.Holding.{coin_number, coin_count, coin_salts}
use Rattle.coin_deal.proofs.Coins.{held}
use Rattle.coin_deal.proofs.Blocks.{block_inside, block_read}
use Rattle.coin_deal.proofs.dealt.Deal.salts_of.Goals as goal

pub slice_bounds-result-end : goal.slice_bounds-result-end
slice_bounds-result-end c =
    let n = c.args.self.now in
    let fits = block_inside c.deref.result.now c.self.inside.salts.items c.number_of.result (coin_count n) n.n c.n-n.result
    (held c.self.inside.config n _ _ _ c.self.view_is c.self.invariant).salts_fill c.deref.ensures.value
    (c.n-n.ensures.value ∙ ap (λ (n : Numbers). n.n) c.self.view_is) c.number_of.ensures.within in
    search (rules, fits)

pub returns-clause-exact : goal.returns-clause-exact
returns-clause-exact c =
    let n = c.args.self.now in
    block_read c.deref.result.now c.self.inside.salts.items (coin_salts n c.args.e c.args.j c.args.r) c.number_of.result (coin_number n c.args.e c.args.j c.args.r) n.n c.n-n.result
    c.deref.ensures.value (c.n-n.ensures.value ∙ ap (λ (n : Numbers). n.n) c.self.view_is) c.number_of.ensures.exact
    ((held c.self.inside.config n _ _ _ c.self.view_is c.self.invariant).are_salts c.args.e c.args.j c.args.r
    (record { epoch = c.requires.epoch; lane = c.requires.lane; round = c.requires.round }))
