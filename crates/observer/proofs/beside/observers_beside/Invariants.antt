use Rattle.observer.specs.Beside.{AreBeside}
use Rattle.observer.proofs.beside.observers_beside.Given as goal

abbrev pub invariant-loop-node : goal.invariant-loop-node
invariant-loop-node l = AreBeside l.report l.node l.observers.items
