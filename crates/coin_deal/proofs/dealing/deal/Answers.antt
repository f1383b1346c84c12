use Rattle.std.proofs.Common.{◌≡◌, ◌+◌, ◌*◌, length, ap, ◌∙◌, subst, arith, length-append}
use Rattle.coin_deal.specs.Holding.{coin_count}
use Rattle.coin_deal.proofs.Coins.{HoldsCoins, holds_more, holds_all, drawn_coefficients, drawn_salts, drawn_all}
use Rattle.coin_deal.proofs.dealing.deal.Goals as goal

pub loop-preserved : goal.loop-preserved
loop-preserved c =
    let n = c.args.config.now in
    let k = c.loop.counter in
    let width : c.f.result + 1 ≡ n.f + 1 = ap (λ f. f + 1) c.f.ensures.value in
    let coefficients = drawn_coefficients n k (c.f.result + 1) _ _ _ c.loop.invariant.next width c.in_ok-draw_bytes.ensures.drawn in
    let salts =
    drawn_salts n k (c.f.result + 1) c.n-n.result _ _ _ _ c.loop.invariant.next width c.in_ok-draw_bytes.ensures.moved c.n-n.ensures.value c.in_ok-draw_salts.ensures.drawn
    in
    record {
      next = drawn_all n k (c.f.result + 1) c.n-n.result _ _ _ c.loop.invariant.next width c.in_ok-draw_bytes.ensures.moved c.n-n.ensures.value c.in_ok-draw_salts.ensures.moved;
      held = rw (coefficients, salts) (holds_more n k c.loop.coefficients.items c.loop.salts.items c.loop.invariant.held);
      cells = omega (arith, simp length-append at (ap length c.in_ok-push.ensures.items), c.loop.invariant.cells);
    }

pub invariant_of-result : goal.invariant_of-result
invariant_of-result c =
    let n = c.args.config.now in
    let ends : c.loop.counter ≡ c.epochs.result * c.n-n.result * c.rounds.result = omega arith in
    let whole : c.loop.counter ≡ coin_count n = ends ∙ rw (c.epochs.ensures.value, c.n-n.ensures.value, c.rounds.ensures.value) in
    holds_all n c.loop.coefficients.items c.loop.salts.items (length c.loop.trees.items) (c.loop.invariant.cells ∙ whole)
    (subst (λ k. HoldsCoins n k c.loop.coefficients.items c.loop.salts.items) whole c.loop.invariant.held)
