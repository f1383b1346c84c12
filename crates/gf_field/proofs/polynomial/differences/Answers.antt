use Rattle.std.proofs.Common.{◌≡◌, sym, ap, ap₂, ◌∙◌}
use Rattle.gf_field.specs.Field.{field_product}
use Rattle.gf_field.specs.Polynomial.{product_of_differences}
use Rattle.gf_field.proofs.Backward.{all_left, IsLeftOf-all, one_taken, IsLeftOf-rest}
use Rattle.gf_field.proofs.polynomial.differences.Goals as goal

pub loop-point-init : goal.loop-point-init
unfolding product_of_differences
loop-point-init c =
    let all : c.into_iter-point-iterator.result.iter.rest.now ≡ c.args.points.now =
    ap (λ r. r.iter.rest.now) c.into_iter-point-iterator.ensures.into_iter_gives
    ∙ ap (λ r. r.rest.now) c.rev-point-items.ensures.source ∙ c.iter.ensures.rest in
    record { front = IsLeftOf-all _ _ all; so_far = sym (ap (λ d. product_of_differences d c.args.x) (all_left _ _ all)) }

pub loop-point-preserved : goal.loop-point-preserved
unfolding product_of_differences
loop-point-preserved c =
    let before = c.loop-point.point-iterator.iter.rest.now in
    let after = c.next.new.self.iter.rest.now in
    let point = c.in-Some.point.now in
    let xs = c.args.points.now in
    record {
      front = IsLeftOf-rest xs before after point c.loop-point.invariant.front c.in-Some.ensures.steps;
      so_far = c.mul-product.ensures ∙ ap₂ field_product c.add.ensures c.loop-point.invariant.so_far
          ∙ sym (ap (λ d. product_of_differences d c.args.x) (one_taken xs before after point c.loop-point.invariant.front c.in-Some.ensures.steps));
    }
