use Rattle.std.proofs.Common.{◌≡◌, ◌<◌, ℕ, List, length, slice_index_or, sym, ap, ◌∙◌, subst, arith}
use Rattle.std.proofs.Math.ListN.{length-set}
use Rattle.std.proofs.lemmas.Option.{slice_get_within}
use Rattle.quiet_check.proofs.Reading.{received_at}
use Rattle.quiet_check.proofs.Receiving.{marked_more}
use Rattle.quiet_check.proofs.receipts.marks_of.Goals as goal

pub index_mut-requires : goal.index_mut-requires
index_mut-requires c =
    let same : c.deref-number-items.result.now ≡ c.args.end.now.got.items = c.deref-number-items.ensures.value in
    let there : c.loop-number.number-index < length c.args.end.now.got.items = omega (arith, ap length same) in
    let has = received_at c.args.report.now c.args.end.now c.loop-number.number-index 0 c.requires there in
    let within = slice_get_within c.args.report.now.history.items (slice_index_or c.args.end.now.got.items c.loop-number.number-index 0) has.post has.stands in
    let below : slice_index_or c.deref-number-items.result.now c.loop-number.number-index 0 < length c.args.report.now.history.items =
    subst (λ (got : List ℕ). slice_index_or got c.loop-number.number-index 0 < length c.args.report.now.history.items) (sym same) within in
    omega (arith, below, c.loop-number.invariant.long, c.loop-number.marks.ok)

pub loop-number-preserved : goal.loop-number-preserved
loop-number-preserved c =
    let same : c.deref-number-items.result.now ≡ c.args.end.now.got.items = c.deref-number-items.ensures.value in
    let there : c.loop-number.number-index < length c.args.end.now.got.items = omega (arith, ap length same) in
    let has = received_at c.args.report.now c.args.end.now c.loop-number.number-index 0 c.requires there in
    let within = slice_get_within c.args.report.now.history.items (slice_index_or c.args.end.now.got.items c.loop-number.number-index 0) has.post has.stands in
    rw same (record {
      long = length-set c.loop-number.marks.items (slice_index_or c.args.end.now.got.items c.loop-number.number-index 0) _ ∙ c.loop-number.invariant.long;
      marked =
          marked_more c.loop-number.marks.items c.args.end.now.got.items c.loop-number.number-index there
          (omega (arith, within, c.loop-number.invariant.long)) c.loop-number.invariant.marked;
    })
