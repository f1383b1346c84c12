use Rattle.std.proofs.Common.{true, length, ap, ◌∙◌, arith}
use Rattle.std.proofs.lemmas.List.{length-set}
use Rattle.trace_reader.proofs.Nodes.{with_node, without_node, none_above, odd_left, even_left}
use Rattle.trace_reader.proofs.head.nodes_of.Goals.{then-rest-eq1, else-rest-eq1}
use Rattle.trace_reader.proofs.head.nodes_of.Goals as goal

pub loop-node-preserved : goal.loop-node-preserved
loop-node-preserved c =
    let node = c.loop-node.node in
    let rest = c.loop-node.rest in
    let held = c.loop-node.invariant in
    elim c.if-rest-eq1.branch [
      | then-rest-eq1 w ↦
          rw w.nodes-is (record {
            number = omega (arith, with_node node c.loop-node.nodes w.add.new.self w.add.ensures.members, odd_left node rest w.if-rest-eq1.true, held.number);
            none = none_above node c.loop-node.nodes w.add.new.self w.add.ensures.members held.none;
            marks = ap (λ set. length set) w.add.ensures.exact ∙ length-set c.loop-node.nodes node true ∙ held.marks;
          })
      | else-rest-eq1 w ↦
          rw w.nodes-is (record {
            number = omega (arith, without_node node c.loop-node.nodes (held.none node (omega arith)), even_left node rest (omega (arith, w.if-rest-eq1.false)), held.number);
            none = λ other above. held.none other (omega (arith, above));
            marks = held.marks;
          })
    ]
