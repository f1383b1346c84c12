use Rattle.std.proofs.Common.{◌≡◌, ◌≢◌, ℕ, ◌+◌, ◌*◌, ◌^◌, ◌<◌, ◌≤◌, length, get_or, set, sym, ap, ap₂, ◌∙◌, subst, arith, bit_xor, get_or-set_other, get_or-set_same, below_more, pow_mono}
use Rattle.std.proofs.lemmas.List.{length-set}
use Rattle.std.proofs.Math.Nat.{one-mul}
use lib.Bits.{xor_shifted}
use Rattle.gf_field.specs.Field.{field_product}
use Rattle.gf_field.proofs.Products.{product-sum_right}
use Rattle.rs_shards.proofs.completing.double.Goals as goal

-- a power of two and what is below it have no place in common
sum_with_power : (i half b : ℕ) → half ≡ 2 ^ i → b < half → bit_xor half b ≡ half + b
sum_with_power i half b e l =
    let whole : half ≡ 1 * 2 ^ i = e ∙ sym (one-mul (2 ^ i)) in
    ap (λ h. bit_xor h b) whole ∙ xor_shifted 1 i b (subst (λ h. b < h) e l) ∙ ap (λ h. h + b) (sym whole)

-- the last power of two is 128
at_most_128 : (i half : ℕ) → i < 8 → half ≡ 2 ^ i → half ≤ 128
at_most_128 i half l e = subst (λ h. h ≤ 128) (sym e) (pow_mono {i = i} {j = 7} (omega arith))

pub loop-b-preserved : goal.loop-b-preserved
loop-b-preserved c =
    let half = c.args.half in
    let b = c.loop-b.b in
    let row = c.loop-b.row in
    let next = bit_xor c.mul-top.result (get_or row b 0) in
    let few : half ≤ 128 = at_most_128 c.requires.power.0 half c.requires.power.1 c.requires.power.2 in
    let so_far = c.loop-b.invariant.so_far in
    let is_next : next ≡ field_product c.args.weight (half + b) =
    ap₂ bit_xor c.mul-top.ensures (so_far b (omega arith)) ∙ sym (product-sum_right c.args.weight half b)
    ∙ ap (field_product c.args.weight) (sum_with_power c.requires.power.0 half b c.requires.power.2 c.loop-b-test.true) in
    record {
      whole = length-set row (half + b) next ∙ c.loop-b.invariant.whole;
      so_far = λ k h. below_more (λ k. get_or (set row (half + b) next) k 0 ≡ field_product c.args.weight k) (half + b)
          (λ k h. let ne : k ≢ half + b = omega arith in rw get_or-set_other (so_far k h))
          (let lt : half + b < length row = omega (arith, few, c.loop-b.invariant.whole) in rw get_or-set_same is_next)
          k (omega arith);
    }
