use Rattle.std.proofs.Common.{◌≡◌, ℕ, ◌+◌, ◌*◌, ◌^◌, ◌≤◌, false, length}
use Rattle.hb_base.specs.Limits.{most_nodes}
use Rattle.hb_base.specs.NodeSet.{is_in}
use Rattle.trace_text.specs.Text.{nodes_number}
use Rattle.trace_reader.proofs.head.nodes_of.Given as goal

-- what was set, and what is left, are the number
abbrev pub invariant-loop-node : goal.invariant-loop-node
invariant-loop-node l = record {
  number : nodes_number l.node (is_in l.nodes) + 2 ^ l.node * l.rest ≡ l.number;
  none : (other : ℕ) → l.node ≤ other → is_in l.nodes other ≡ false;
  marks : length l.nodes ≡ most_nodes;
}
