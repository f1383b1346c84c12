use Rattle.actor_cell.specs.Passes.{ArePassesOf}
use Rattle.cell_cases.proofs.mailboxes.send.Given as goal

abbrev pub invariant-loop-i : goal.invariant-loop-i
invariant-loop-i g l = ArePassesOf l.boxes l.passes
