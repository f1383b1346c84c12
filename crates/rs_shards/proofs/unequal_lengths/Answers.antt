use Rattle.std.proofs.Common.{◌≡◌, ℕ, ◌<◌, [], length, get_or, sym, ap, ◌∙◌, subst, arith, below_more, Fits, w8, Some}
use Rattle.std.proofs.lemmas.List.{get_or_default}
use Rattle.hb_base.specs.ByteLists.{AreBytes}
use Rattle.rs_shards.specs.Column.{shard_at}
use Rattle.rs_shards.proofs.Columns.{AreBytes-of, shard_at-read}
use Rattle.rs_shards.proofs.Lengths.{none_differs, one_differs, first_length}
use Rattle.rs_shards.proofs.unequal_lengths.Goals as goal

pub loop-shard-preserved : goal.loop-shard-preserved
loop-shard-preserved c =
    let got = c.args.shards.now in
    let i = c.loop-shard.shard-index in
    let bytes = c.as_slice-bytes.result.now in
    let is : bytes ≡ shard_at got i = c.as_slice-bytes.ensures ∙ shard_at-read got i c.shard-item.result c.loop-shard-test.true c.shard-item.is in
    let fits : (k : ℕ) → Fits w8 (get_or bytes k 0) = assumption in
    record {
      equal = below_more _ _ c.loop-shard.invariant.equal (ap length (sym is) ∙ c.if-bytes-a.false);
      bytes = below_more _ _ c.loop-shard.invariant.bytes (subst AreBytes is (AreBytes-of bytes fits));
    }

pub returns-then-bytes-a : goal.returns-then-bytes-a
returns-then-bytes-a c =
    let got = c.args.shards.now in
    let i = c.loop-shard.shard-index in
    let first : length c.as_slice-a.result.now ≡ length (shard_at got 0) =
    ap length (c.as_slice-a.ensures ∙ ap (λ x. x.1) (get_or_default got 0 c.index-shards-0.result (0, []) c.requires.some)) in
    let other : length c.as_slice-bytes.result.now ≡ length (shard_at got i) =
    ap length (c.as_slice-bytes.ensures ∙ shard_at-read got i c.shard-item.result c.loop-shard-test.true c.shard-item.is) in
    let listed = first_length got c.requires.some in (
      first ∙ sym listed,
      one_differs got _ i c.loop-shard-test.true (λ j l. c.loop-shard.invariant.equal j l ∙ first ∙ sym listed)
          (λ e. c.if-bytes-a.true (other ∙ e ∙ listed ∙ sym first))
          ∙ ap Some (sym other),
    )

pub returns : goal.returns
returns c =
    let got = c.args.shards.now in
    let first : length c.as_slice-a.result.now ≡ length (shard_at got 0) =
    ap length (c.as_slice-a.ensures ∙ ap (λ x. x.1) (get_or_default got 0 c.index-shards-0.result (0, []) c.requires.some)) in
    let listed = first_length got c.requires.some in (
      none_differs got _ (λ i l. let li : i < c.loop-shard.shard-index = omega arith in c.loop-shard.invariant.equal i li ∙ first ∙ sym listed),
      record {
        equal = λ i l. let li : i < c.loop-shard.shard-index = omega arith in c.loop-shard.invariant.equal i li ∙ first;
        bytes = λ i l. let li : i < c.loop-shard.shard-index = omega arith in c.loop-shard.invariant.bytes i li;
      },
    )
