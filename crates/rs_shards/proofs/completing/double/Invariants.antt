use Rattle.std.proofs.Common.{◌≡◌, ℕ, ◌+◌, ◌<◌, get_or, length}
use Rattle.gf_field.specs.Field.{field_product}
use Rattle.rs_shards.proofs.completing.double.Given as goal

-- the products with the elements below half + b stand in the row
abbrev pub invariant-loop-b : goal.invariant-loop-b
invariant-loop-b l = record {
  whole : length l.row ≡ 256;
  so_far : (k : ℕ) → k < l.half + l.b → get_or l.row k 0 ≡ field_product l.weight k;
}
