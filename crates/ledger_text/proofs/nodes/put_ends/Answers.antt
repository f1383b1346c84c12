use Rattle.std.proofs.Common.{arith}
use Rattle.std.proofs.lemmas.Result.{err_from_is_err_and}
use Rattle.ledger_text.specs.Text.{end_text}
use Rattle.ledger_text.proofs.Order.{writes_on, writes_stop, each_step, each_split}
use Rattle.ledger_text.proofs.nodes.put_ends.Goals as goal

pub returns-in_err-put_fate : goal.returns-in_err-put_fate
returns-in_err-put_fate g c =
    let p = err_from_is_err_and c.from_residual.result c.from_residual.ensures.1 in
    let x = c.end-item.result in
    rw p.1 (writes_stop _ (each_split (end_text c.args.node) c.args.ends.now c.loop-end.end-index x x (omega arith) c.end-item.is) c.loop-end.invariant
    c.in_err-put_fate.ensures)

pub loop-end-preserved : goal.loop-end-preserved
loop-end-preserved g c =
    let x = c.end-item.result in
    writes_on (each_step (end_text c.args.node) c.args.ends.now c.loop-end.end-index x x (omega arith) c.end-item.is) c.loop-end.invariant
    c.in_ok-put_fate.ensures
