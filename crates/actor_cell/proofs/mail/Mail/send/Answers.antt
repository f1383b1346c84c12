use Rattle.std.proofs.Common.{refl}
use Rattle.actor_cell.specs.Mail.{at_node}
use Rattle.actor_cell.proofs.Mailing.{AreSent-more}
use Rattle.actor_cell.proofs.mail.Mail.send.Goals as goal

pub loop-node-preserved : goal.loop-node-preserved
loop-node-preserved g c =
    AreSent-more c.args.self.now.boxes.config (λ d i. at_node d c.args.script.now c.args.post.now c.args.k i) c.loop-node.node c.args.self.now c.loop-node.self
    c.send_to_node.new.self c.loop-node.invariant c.send_to_node.ensures refl
