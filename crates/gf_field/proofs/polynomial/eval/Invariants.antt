use Rattle.std.proofs.Common.{◌≡◌, length, drop}
use Rattle.gf_field.specs.Polynomial.{polynomial_at}
use Rattle.gf_field.proofs.Backward.{IsLeftOf}
use Rattle.gf_field.proofs.polynomial.eval.Given as goal

-- the result for what was taken, from the last on
abbrev pub invariant-loop-coefficient : goal.invariant-loop-coefficient
invariant-loop-coefficient l =
    let left = l.coefficient-iterator.iter.rest.now in
    record {
      front : IsLeftOf left l.coefficients;
      so_far : l.value ≡ polynomial_at (drop (length left) l.coefficients) l.x;
    }
