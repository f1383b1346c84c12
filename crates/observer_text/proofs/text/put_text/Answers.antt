use Rattle.std.proofs.lemmas.Result.{err_from_is_err_and}
use Rattle.script_fault.proofs.Writing.{writes_then, writes_front}
use Rattle.observer_text.specs.Text.{observe_text}
use Rattle.observer_text.proofs.text.put_text.Goals as goal

pub returns-in_err-put_observers : goal.returns-in_err-put_observers
unfolding observe_text
returns-in_err-put_observers g c =
    let p = err_from_is_err_and c.from_residual-in_err-put_observers.result c.from_residual-in_err-put_observers.ensures.1 in
    rw p.1 (writes_then c.in_ok-put_numbers.ensures (writes_front _ c.in_err-put_observers.ensures))

pub returns : goal.returns
unfolding observe_text
returns g c = writes_then c.in_ok-put_numbers.ensures (writes_then c.in_ok-put_observers.ensures c.put_status.ensures)
