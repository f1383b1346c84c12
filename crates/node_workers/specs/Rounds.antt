-- Rounds of a worker. B, A, L, J and S are what a `Node` is over.
use Rattle.std.specs.Prelude.{ℕ, Bool, true, false, length, Option, None, Some}
use Rattle.actor_cell.specs.declared.served.Served.{Served}
use Rattle.actor_cell.specs.declared.served.Served.TheVariants.{Idle, Did, Ended}
use Rattle.node_workers.specs.declared.node.Node.{Node}
use Rattle.node_workers.specs.declared.node.Node.TheVariants.{Correct, Lying}

-- whether a cell that gave this answer took a number
abbrev pub is_did : Option Served → Bool
is_did None = false
is_did (Some Idle) = false
is_did (Some Did) = true
is_did (Some Ended) = false

-- how many there are behind locks at a node
abbrev pub locks_of : {B A L J S : Type 0} → Node B A L J S → ℕ
locks_of (Correct cells) = length cells.items
locks_of (Lying liar) = 1
