use Rattle.std.proofs.Common.{sym, ◌∙◌}
use Rattle.script_fault.proofs.Writing.{writes_then}
use Rattle.ledger_text.specs.Text.{state_text}
use Rattle.ledger_text.proofs.nodes.put_state.Goals as goal

pub returns : goal.returns
unfolding state_text
returns g c =
    rw (sym c.running.ensures ∙ c.if-running.false) (writes_then c.in_ok-put_node.ensures (rw c.as_slice.ensures.value at c.put_ends.ensures))
