use Rattle.std.proofs.Common.{◌≡◌, ℕ, ◌<◌, ◌≤◌, length, get_or}
use Rattle.gf_field.specs.Field.{field_sum, field_product}
use Rattle.coin_deal.proofs.others.take_lowest.Given as goal

-- the values before i are taken, the others stand as they did
abbrev pub invariant-loop-i : goal.invariant-loop-i
invariant-loop-i l = record {
  size : length l.values ≡ length l.points;
  bytes : (k : ℕ) → k < l.i → get_or l.values k 0 < 256;
  taken : (k : ℕ) → k < l.i → field_product (get_or l.points k 0) (get_or l.values k 0) ≡ field_sum (get_or l.fn.values k 0) l.lowest;
  left : (k : ℕ) → l.i ≤ k → get_or l.values k 0 ≡ get_or l.fn.values k 0;
}
