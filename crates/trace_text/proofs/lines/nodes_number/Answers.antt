use Rattle.std.proofs.Common.{◌≤◌, ◌^◌, arith}
use Rattle.std.proofs.Math.Pow.{pow_mono}
use Rattle.hb_base.specs.NodeSet.{is_in}
use Rattle.trace_text.proofs.Nodes.{nodes_few}
use Rattle.trace_text.proofs.lines.nodes_number.Goals as goal

pub overflow_add-sum : goal.overflow_add-sum
overflow_add-sum c =
    let node = c.loop-node.node in
    let small : 2 ^ node ≤ 2 ^ 16 = pow_mono {j = 16} (omega (arith, c.loop-node-test.true)) in
    omega (arith, nodes_few node (is_in c.args.nodes.now), small, c.loop-node.invariant.sum, c.loop-node.invariant.power)
