use Rattle.std.specs.List.{flat_map, range_with_len}
use Rattle.actor_cell.specs.Mail.{AreSent, at_node}
use Rattle.actor_cell.proofs.mail.Mail.send.Given as goal

-- the nodes so far are done
abbrev pub invariant-loop-node : goal.invariant-loop-node
invariant-loop-node g l =
    let c = l.fn.self.boxes.config in
    AreSent c (flat_map (at_node c l.script l.post l.k) (range_with_len 0 l.node)) l.fn.self l.self
