use Rattle.std.proofs.Common.{rules, ◌+◌, ◌∙◌, ap}
use Rattle.hb_base.specs.Numbers.{Numbers}
use Rattle.coin_deal.specs.Deal.{coefficients}
use Rattle.coin_deal.specs.Holding.{coin_number, coin_count}
use Rattle.coin_deal.proofs.Coins.{held}
use Rattle.coin_deal.proofs.Blocks.{block_inside, block_read}
use Rattle.coin_deal.proofs.dealt.Deal.coefficients_of.Goals as goal

pub slice_bounds-result-end : goal.slice_bounds-result-end
slice_bounds-result-end c =
    let n = c.args.self.now in
    let fits = block_inside c.deref.result.now c.self.inside.coefficients.items c.number_of.result (coin_count n) (n.f + 1) (c.f.result + 1)
    (held c.self.inside.config n _ _ _ c.self.view_is c.self.invariant).coefficients_fill c.deref.ensures.value
    (ap (λ k. k + 1) (c.f.ensures.value ∙ ap (λ (n : Numbers). n.f) c.self.view_is)) c.number_of.ensures.within in
    search (rules, fits)

pub returns : goal.returns
returns c =
    let n = c.args.self.now in
    block_read c.deref.result.now c.self.inside.coefficients.items (coefficients n c.args.e c.args.j c.args.r) c.number_of.result (coin_number n c.args.e c.args.j c.args.r) (n.f + 1) (c.f.result + 1)
    c.deref.ensures.value (ap (λ k. k + 1) (c.f.ensures.value ∙ ap (λ (n : Numbers). n.f) c.self.view_is)) c.number_of.ensures.exact
    ((held c.self.inside.config n _ _ _ c.self.view_is c.self.invariant).are_coefficients c.args.e c.args.j c.args.r
    (record { epoch = c.requires.epoch; lane = c.requires.lane; round = c.requires.round }))
