use Rattle.std.proofs.Common.{◌≡◌, ℕ, ◌<◌, ◌≤◌, get_or}
use Rattle.gf_field.specs.Field.{field_sum, field_product}
use Rattle.rs_shards.proofs.completing.add_products.Given as goal

-- what stands below i is added, and the rest is as it was
abbrev pub invariant-loop-i : goal.invariant-loop-i
invariant-loop-i l = record {
  added : (k : ℕ) → k < l.i → get_or l.sum k 0 ≡ field_sum (get_or l.initial.sum k 0) (field_product l.weight (get_or l.shard k 0));
  left : (k : ℕ) → l.i ≤ k → get_or l.sum k 0 ≡ get_or l.initial.sum k 0;
}
