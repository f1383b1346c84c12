use Rattle.std.proofs.Common.{◌≡◌}
use Rattle.gf_field.specs.Polynomial.{polynomial_at}
use Rattle.gf_field.specs.Interpolation.{interpolation_to}
use Rattle.gf_field.proofs.polynomial.interpolate_at.Given as goal

-- the value of the sum over the points before i
abbrev pub invariant-loop-i : goal.invariant-loop-i
invariant-loop-i l = l.sum ≡ polynomial_at (interpolation_to l.points l.values l.i) l.x
