use Rattle.std.proofs.Common.{◌≡◌, ◌≤◌}
use Rattle.hb_base.specs.NodeSet.{is_in}
use Rattle.hb_base.specs.Counting.{count_nodes}
use Rattle.hb_base.proofs.node_set.NodeSet.count.Given as goal

abbrev pub invariant-loop-node : goal.invariant-loop-node
invariant-loop-node l = (l.count ≡ count_nodes l.node (is_in l.self)) × (l.count ≤ l.node)
