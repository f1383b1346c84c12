use Rattle.std.proofs.Common.{◌≡◌, ℕ, ◌<◌, List, get_or, length}
use Rattle.gf_field.specs.Polynomial.{polynomial_at, Interpolates, unit_values}
use Rattle.rs_shards.proofs.completing.weights.Given as goal

-- the weights of the points before i
abbrev pub invariant-loop-i : goal.invariant-loop-i
invariant-loop-i l = record {
  count : length l.weights.items ≡ l.i;
  so_far : (k : ℕ) → k < l.i
      → (cs : List ℕ) × Interpolates l.points (unit_values (length l.points) k) cs × (polynomial_at cs l.x ≡ get_or l.weights.items k 0);
}
