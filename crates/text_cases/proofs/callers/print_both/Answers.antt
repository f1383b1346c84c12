use Rattle.script_fault.proofs.Writing.{writes_then}
use Rattle.text_cases.proofs.callers.print_both.Goals as goal

pub returns : goal.returns
returns g c = writes_then c.in_ok-print_run.ensures c.print_soak.ensures
