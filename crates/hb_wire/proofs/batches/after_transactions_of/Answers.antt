use Rattle.std.proofs.Common.{sym, ◌∙◌}
use Rattle.hb_wire.proofs.BatchLemmas.{transactions_go_on}
use Rattle.hb_wire.proofs.batches.after_transactions_of.Goals as goal

pub transactions-preserved : goal.transactions-preserved
transactions-preserved c =
    let s = c.transactions in
    let read = c.in_ok-after in
    let step = transactions_go_on c.args.count s.counter s.rest.now read.after.now read.field-0-0.now c.transactions-test.true read.ensures in
    sym step ∙ s.invariant
