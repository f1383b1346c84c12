use Rattle.std.proofs.Common.{codes, sym}
use Rattle.std.proofs.lemmas.Result.{err_from_is_err_and}
use Rattle.script_fault.specs.Line.{fault_line}
use Rattle.script_fault.proofs.Writing.{writes_then, writes_front}
use Rattle.script_fault.proofs.write.write_fault.Goals as goal

pub returns-in_err-put_hex : goal.returns-in_err-put_hex
unfolding fault_line
returns-in_err-put_hex g c =
    let p = err_from_is_err_and c.from_residual-in_err-put_hex.result c.from_residual-in_err-put_hex.ensures.1 in
    rw (p.1, sym c.kept_text-text.ensures) (writes_then c.in_ok-put_words.ensures (writes_front (codes "\n") c.in_err-put_hex.ensures))

pub returns : goal.returns
unfolding fault_line
returns g c = rw (sym c.kept_text-text.ensures) (writes_then c.in_ok-put_words.ensures (writes_then c.in_ok-put_hex.ensures c.put_end.ensures))
