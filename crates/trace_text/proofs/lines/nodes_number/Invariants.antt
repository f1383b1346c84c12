use Rattle.std.proofs.Common.{◌≡◌, ◌^◌}
use Rattle.hb_base.specs.NodeSet.{is_in}
use Rattle.trace_text.specs.Text.{nodes_number}
use Rattle.trace_text.proofs.lines.nodes_number.Given as goal

abbrev pub invariant-loop-node : goal.invariant-loop-node
invariant-loop-node l = record { sum : l.sum ≡ nodes_number l.node (is_in l.fn.nodes); power : l.power ≡ 2 ^ l.node }
