use Rattle.std.proofs.Common.{◌≡◌, sym, ap, ◌∙◌, bit_xor}
use Rattle.gf_field.specs.Field.{field_product}
use Rattle.gf_field.specs.Polynomial.{polynomial_at}
use Rattle.gf_field.proofs.Backward.{all_left, IsLeftOf-all, one_taken, IsLeftOf-rest}
use Rattle.gf_field.proofs.polynomial.eval.Goals as goal

pub loop-coefficient-init : goal.loop-coefficient-init
unfolding polynomial_at
loop-coefficient-init c =
    let all : c.into_iter-coefficient-iterator.result.iter.rest.now ≡ c.args.coefficients.now =
    ap (λ r. r.iter.rest.now) c.into_iter-coefficient-iterator.ensures.into_iter_gives
    ∙ ap (λ r. r.rest.now) c.rev-coefficient-items.ensures.source ∙ c.iter.ensures.rest in
    record { front = IsLeftOf-all _ _ all; so_far = sym (ap (λ d. polynomial_at d c.args.x) (all_left _ _ all)) }

pub loop-coefficient-preserved : goal.loop-coefficient-preserved
unfolding polynomial_at
loop-coefficient-preserved c =
    let before = c.loop-coefficient.coefficient-iterator.iter.rest.now in
    let after = c.next.new.self.iter.rest.now in
    let coefficient = c.in-Some.coefficient.now in
    let xs = c.args.coefficients.now in
    record {
      front = IsLeftOf-rest xs before after coefficient c.loop-coefficient.invariant.front c.in-Some.ensures.steps;
      so_far = c.add-value.ensures
          ∙ ap (bit_xor coefficient) (c.mul.ensures ∙ ap (field_product c.args.x) c.loop-coefficient.invariant.so_far)
          ∙ sym (ap (λ d. polynomial_at d c.args.x) (one_taken xs before after coefficient c.loop-coefficient.invariant.front c.in-Some.ensures.steps));
    }
