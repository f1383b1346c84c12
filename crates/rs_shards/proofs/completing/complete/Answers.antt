use Rattle.std.proofs.Common.{◌≡◌, ◌∷◌, [], ◌++◌, length, map, sym, ap, ◌∙◌, subst, arith}
use Rattle.std.specs.List.{range_with_len}
use Rattle.std.proofs.Math.Nat.{zero-add}
use Rattle.std.proofs.lemmas.List.{take_all}
use Rattle.std.proofs.lemmas.List.FromFn.{map-range_with_len_more}
use Rattle.gf_field.specs.Polynomial.{AreDistinct}
use Rattle.rs_shards.specs.Completing.{completed, completed_shard}
use Rattle.rs_shards.proofs.Columns.{indices_of-distinct}
use Rattle.rs_shards.proofs.completing.complete.Goals as goal

pub shard-requires-clause-points : goal.shard-requires-clause-points
shard-requires-clause-points c = c.deref.ensures.value ∙ c.in_ok-points.ensures

pub shard-requires-clause-distinct : goal.shard-requires-clause-distinct
shard-requires-clause-distinct c =
    subst AreDistinct (sym (c.deref.ensures.value ∙ c.in_ok-points.ensures)) (indices_of-distinct c.args.n c.args.got.now c.requires.shards)

pub loop-m-preserved : goal.loop-m-preserved
loop-m-preserved c =
    let f = completed_shard c.args.got.now in
    let m = c.loop-m.m in
    c.in_ok-push.ensures.items ∙ ap (λ xs. xs ++ c.in_ok-shard.field-0 ∷ []) c.loop-m.invariant
    ∙ ap (λ x. map f (range_with_len 0 m) ++ x ∷ []) c.in_ok-shard.ensures
    ∙ sym (map-range_with_len_more f 0 m m (zero-add m))

pub returns : goal.returns
unfolding completed
returns c =
    let got = c.args.got.now in
    let whole : c.loop-m.m ≡ c.args.n = omega arith in
    c.loop-m.invariant ∙ ap (λ m. map (completed_shard got) (range_with_len 0 m)) whole
    ∙ ap (λ xs. map (completed_shard xs) (range_with_len 0 c.args.n)) (sym (take_all (length got) got (omega arith)))
