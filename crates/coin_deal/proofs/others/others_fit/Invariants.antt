use Rattle.std.proofs.Common.{◌≡◌, ℕ, ◌+◌, ◌<◌, length, take, drop, get_or}
use Rattle.coin_deal.proofs.Fitting.{points_of, values_of, polynomial_of}
use Rattle.hb_base.specs.ByteLists.{AreBytes}
use Rattle.gf_field.specs.Polynomial.{polynomial_at}
use Rattle.coin_deal.specs.Sharing.{HasShares}
use Rattle.coin_deal.proofs.others.others_fit.Given as goal

-- the points and the values of the shares so far
abbrev pub invariant-loop-known : goal.invariant-loop-known
invariant-loop-known l = record {
  points : l.points.items ≡ points_of (take l.known-index l.shares);
  bytes : (k : ℕ) → k < l.known-index → get_or l.values.items k 0 < 256;
  values : l.values.items ≡ values_of (take l.known-index l.shares);
}

-- the coefficients so far are the lowest ones, and the values are those of what is left above the last of them
abbrev pub invariant-loop : goal.invariant-loop
invariant-loop l =
    let whole = polynomial_of l.shares l.secret in
    record {
      bytes : AreBytes (values_of l.shares);
      has : HasShares (length l.shares) l.shares l.secret whole;
      points : l.points.items ≡ points_of l.shares;
      size : length l.values.items ≡ length l.shares;
      coefficients : l.coefficients.items ≡ take (l.counter + 1) whole;
      lowest : l.lowest ≡ get_or whole l.counter 0;
      values : (i : ℕ) → i < length l.shares → get_or l.values.items i 0 ≡ polynomial_at (drop l.counter whole) (get_or l.points.items i 0);
    }
