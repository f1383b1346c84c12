use Rattle.std.proofs.Common.{◌≡◌, ℕ, ◌^◌, ◌<◌, get_or}
use Rattle.gf_field.specs.Field.{field_product}
use Rattle.rs_shards.proofs.completing.multiples.Given as goal

-- the products with the elements below half stand in the row
abbrev pub invariant-loop-place : goal.invariant-loop-place
invariant-loop-place l = record {
  power : l.half ≡ 2 ^ l.place;
  so_far : (b : ℕ) → b < l.half → get_or l.row b 0 ≡ field_product l.weight b;
}
