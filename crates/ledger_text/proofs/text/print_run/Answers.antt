use Rattle.std.proofs.lemmas.Result.{err_from_is_err_and}
use Rattle.script_fault.proofs.Writing.{writes_then, writes_front}
use Rattle.ledger_text.specs.Text.{run_text}
use Rattle.ledger_text.proofs.text.print_run.Goals as goal

pub returns-in_err-put_nodes : goal.returns-in_err-put_nodes
unfolding run_text
returns-in_err-put_nodes g c =
    let p = err_from_is_err_and c.from_residual-in_err-put_nodes.result c.from_residual-in_err-put_nodes.ensures.1 in
    rw p.1 (writes_then c.in_ok-put_numbers.ensures (writes_front _ c.in_err-put_nodes.ensures))

pub returns : goal.returns
unfolding run_text
returns g c = writes_then c.in_ok-put_numbers.ensures (writes_then c.in_ok-put_nodes.ensures c.put_status.ensures)
