use Rattle.std.proofs.Common.{◌<◌, [], length, sym, ◌∙◌, arith}
use Rattle.hb_wire.specs.Batches.{batch_of}
use Rattle.ledger_text.proofs.Among.{none_more, one_found}
use Rattle.ledger_text.proofs.search.stands_in_batch.Goals as goal

pub returns-then-eq : goal.returns-then-eq
returns-then-eq c =
    let low : c.loop-t.t < c.args.count = omega (arith, c.loop-t-test.true) in
    sym (one_found (batch_of c.args.value.now) c.args.tx.now c.batch_at.result.now c.loop-t.t c.args.count low c.requires (c.batch_at.ensures [])
    (sym c.eq.ensures ∙ c.if-eq.true))

pub loop-t-preserved : goal.loop-t-preserved
loop-t-preserved c =
    let below : c.loop-t.t < length (batch_of c.args.value.now) = omega (arith, c.loop-t-test.true, c.requires) in
    none_more (batch_of c.args.value.now) c.args.tx.now c.batch_at.result.now c.loop-t.t below (c.batch_at.ensures []) c.loop-t.invariant
    (sym c.eq.ensures ∙ c.if-eq.false)
