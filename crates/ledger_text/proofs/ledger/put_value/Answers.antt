use Rattle.std.proofs.Common.{sym, ap}
use Rattle.std.proofs.lemmas.Result.{err_from_is_err_and}
use Rattle.script_fault.proofs.Writing.{writes_then, writes_front}
use Rattle.ledger_text.specs.Lines.{batch_line}
use Rattle.ledger_text.specs.Text.{batch_text}
use Rattle.ledger_text.proofs.Order.{writes_as}
use Rattle.ledger_text.proofs.ledger.put_value.Goals as goal

pub returns-in_err-put_batch-clause-text : goal.returns-in_err-put_batch-clause-text
unfolding batch_text
returns-in_err-put_batch-clause-text g c =
    let p = err_from_is_err_and c.from_residual.result c.from_residual.ensures.1 in
    rw p.1 (writes_front _ (writes_as (ap (batch_line c.args.lane) (sym c.batch_len.ensures.exact)) c.in_err-put_batch.ensures))

pub returns-clause-text : goal.returns-clause-text
unfolding batch_text
returns-clause-text g c =
    writes_then (writes_as (ap (batch_line c.args.lane) (sym c.batch_len.ensures.exact)) c.in_ok-put_batch.ensures) c.put_transactions.ensures.text
