use Rattle.std.proofs.Common.{sym, ap}
use Rattle.std.proofs.lemmas.Result.{err_from_is_err_and}
use Rattle.script_fault.proofs.Writing.{writes_then, writes_front}
use Rattle.ledger_text.proofs.Order.{writes_as}
use Rattle.trace_text.specs.Text.{bytes_text, post_line}
use Rattle.trace_text.proofs.lines.put_post.Goals as goal

pub returns-in_err-put_bytes : goal.returns-in_err-put_bytes
unfolding post_line
returns-in_err-put_bytes g c =
    let p = err_from_is_err_and c.from_residual-in_err-put_bytes.result c.from_residual-in_err-put_bytes.ensures.1 in
    rw p.1 (writes_then c.in_ok-put_words.ensures (writes_front _ (writes_as (ap bytes_text (sym c.as_slice-bytes.ensures)) c.in_err-put_bytes.ensures)))

pub returns : goal.returns
unfolding post_line
returns g c =
    writes_then c.in_ok-put_words.ensures
    (writes_then (writes_as (ap bytes_text (sym c.as_slice-bytes.ensures)) c.in_ok-put_bytes.ensures) c.put_line_end.ensures)
