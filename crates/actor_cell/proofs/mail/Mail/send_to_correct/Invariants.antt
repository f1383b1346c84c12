use Rattle.std.specs.List.{flat_map, range_with_len}
use Rattle.actor_cell.specs.Mail.{AreSent, if_reached}
use Rattle.actor_cell.proofs.mail.Mail.send_to_correct.Given as goal

-- the actors so far are done
abbrev pub invariant-loop-actor : goal.invariant-loop-actor
invariant-loop-actor g l =
    let c = l.fn.self.boxes.config in
    AreSent c (flat_map (if_reached c l.script l.post l.k l.node) (range_with_len 0 l.actor)) l.fn.self l.self
