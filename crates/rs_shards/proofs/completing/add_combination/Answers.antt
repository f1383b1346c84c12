use Rattle.std.proofs.Common.{◌≡◌, [], ◌<◌, length, get_or, take, sym, ap, ap₂, ◌∙◌, arith, bit_xor, add-one}
use Rattle.std.proofs.lemmas.List.{get_or_default}
use lib.Bits.{xor_zero_r, xor_assoc}
use Rattle.gf_field.specs.Field.{field_product}
use Rattle.gf_field.specs.Polynomial.{sum_of_products}
use Rattle.gf_field.proofs.Interpolation.{sum_of_products-more}
use Rattle.rs_shards.specs.Column.{shard_at, column_of}
use Rattle.rs_shards.proofs.Columns.{get_or-column_of, length-column_of}
use Rattle.rs_shards.proofs.completing.add_combination.Goals as goal

pub loop-i-init : goal.loop-i-init
unfolding sum_of_products
loop-i-init c column l = sym (xor_zero_r (get_or c.args.sum.now column 0))

pub loop-i-preserved : goal.loop-i-preserved
loop-i-preserved c column l =
    let got = c.args.got.now in
    let ws = c.args.weights.now in
    let vs = column_of got column in
    let i = c.loop-i.i in
    let shard = c.as_slice.result.now in
    let is : shard ≡ shard_at got i = c.as_slice.ensures ∙ ap (λ x. x.1) (get_or_default got i c.index-got-i.result (0, []) c.loop-i-test.true) in
    let in_sum : column < length c.loop-i.sum = omega arith in
    let in_shard : column < length shard = omega (arith, ap length is, c.requires.equal i c.loop-i-test.true) in
    let product : field_product (get_or ws i 0) (get_or shard column 0) ≡ field_product (get_or ws i 0) (get_or vs i 0) =
    ap (field_product (get_or ws i 0)) (ap (λ s. get_or s column 0) is ∙ sym (get_or-column_of got column i c.loop-i-test.true)) in
    let more = sum_of_products-more ws vs i (omega arith) (omega (arith, length-column_of got column)) in
    c.add_multiple.ensures column in_shard
    ∙ ap₂ bit_xor (c.loop-i.invariant column in_sum) product
    ∙ xor_assoc (get_or c.args.sum.now column 0) (sum_of_products (take i ws) (take i vs)) (field_product (get_or ws i 0) (get_or vs i 0))
    ∙ ap (bit_xor (get_or c.args.sum.now column 0))
    (sym more ∙ ap (λ t. sum_of_products (take t ws) (take t vs)) (sym (add-one i)))
