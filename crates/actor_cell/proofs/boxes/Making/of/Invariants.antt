use Rattle.actor_cell.specs.Making.{IsMade}
use Rattle.actor_cell.proofs.boxes.Making.of.Given as goal

-- those of the nodes so far are made
abbrev pub invariant-loop-node : goal.invariant-loop-node
invariant-loop-node l = IsMade l.config l.node l.made
