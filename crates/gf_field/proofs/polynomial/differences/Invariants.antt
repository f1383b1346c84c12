use Rattle.std.proofs.Common.{◌≡◌, length, drop}
use Rattle.gf_field.specs.Polynomial.{product_of_differences}
use Rattle.gf_field.proofs.Backward.{IsLeftOf}
use Rattle.gf_field.proofs.polynomial.differences.Given as goal

-- the result for what was taken, from the last on
abbrev pub invariant-loop-point : goal.invariant-loop-point
invariant-loop-point l =
    let left = l.point-iterator.iter.rest.now in
    record {
      front : IsLeftOf left l.points;
      so_far : l.product ≡ product_of_differences (drop (length left) l.points) l.x;
    }
