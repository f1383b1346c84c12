use Rattle.std.proofs.Common.{arith}
use Rattle.hb_wire.proofs.BatchLemmas.{lies, reached, stands_there, found_there}
use Rattle.hb_wire.proofs.batches.batch_at.Goals as goal

pub slice_bounds-left-count : goal.slice_bounds-left-count
slice_bounds-left-count c = (lies c.args.bytes.now (omega arith)).long

pub slice_bounds-left-start : goal.slice_bounds-left-start
slice_bounds-left-start c = (lies c.args.bytes.now (omega arith)).long

pub returns-in_default : goal.returns-in_default
returns-in_default c = λ d. absurd (reached c.args.bytes.now c.args.t c.requires c.in_default.ensures)

pub returns-in-Some-transaction_of : goal.returns-in-Some-transaction_of
returns-in-Some-transaction_of c =
    let found = c.in-Some-transaction_of in
    found_there c.args.bytes.now c.in-Some.left.now found.transaction.now found.field-0-1.now c.args.t c.requires c.in-Some.ensures found.ensures

pub returns-in-None : goal.returns-in-None
returns-in-None c = λ d. absurd (stands_there c.args.bytes.now c.in-Some.left.now c.args.t c.requires c.in-Some.ensures c.in-None.ensures)
