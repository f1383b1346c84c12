use Rattle.std.proofs.lemmas.Result.{err_from_is_err_and}
use Rattle.script_fault.proofs.Writing.{writes_then, writes_front}
use Rattle.accuse_text.specs.Text.{accuse_text}
use Rattle.accuse_text.proofs.text.print_accuse.Goals as goal

pub returns-in_err-put_all : goal.returns-in_err-put_all
unfolding accuse_text
returns-in_err-put_all g c =
    let p = err_from_is_err_and c.from_residual-in_err-put_all.result c.from_residual-in_err-put_all.ensures.1 in
    rw p.1 (writes_then c.in_ok-put_numbers.ensures (writes_front _ c.in_err-put_all.ensures))

pub returns : goal.returns
unfolding accuse_text
returns g c = writes_then c.in_ok-put_numbers.ensures (writes_then c.in_ok-put_all.ensures c.put_status.ensures)
