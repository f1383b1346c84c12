use Rattle.std.proofs.Common.{◌≡◌, ℕ, ◌<◌, get_or, length, take}
use Rattle.gf_field.specs.Field.{field_sum}
use Rattle.gf_field.specs.Polynomial.{sum_of_products}
use Rattle.rs_shards.specs.Column.{column_of}
use Rattle.rs_shards.proofs.completing.add_combination.Given as goal

-- the shards before i are added, byte by byte
abbrev pub invariant-loop-i : goal.invariant-loop-i
invariant-loop-i l =
    (column : ℕ) → column < length l.sum
    → get_or l.sum column 0 ≡ field_sum (get_or l.initial.sum column 0) (sum_of_products (take l.i l.weights) (take l.i (column_of l.got column)))
