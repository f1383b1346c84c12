use Rattle.std.proofs.Common.{◌≡◌, refl, sym, arith}
use Rattle.gf_field.proofs.Products.{product_zero}
use Rattle.rs_shards.proofs.completing.multiples.Goals as goal

pub loop-place-init : goal.loop-place-init
loop-place-init c = record {
  power = refl;
  so_far = λ b h. let none : b ≡ 0 = omega arith in rw none (sym (product_zero c.args.weight));
}
