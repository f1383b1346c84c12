use Rattle.std.proofs.Common.{sym, ap}
use Rattle.script_fault.proofs.Writing.{writes_then}
use Rattle.ledger_text.proofs.Order.{writes_as}
use Rattle.observer_text.specs.Text.{observer_line, observer_text}
use Rattle.observer_text.proofs.text.put_observer.Goals as goal

pub returns : goal.returns
unfolding observer_text
returns g c = writes_then (writes_as (ap (observer_line c.args.node) (sym c.epochs.ensures.value)) c.in_ok-put_epochs.ensures) c.put_ledger.ensures
