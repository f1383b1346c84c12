use Rattle.std.proofs.Common.{refl}
use Rattle.actor_cell.specs.Mail.{if_reached}
use Rattle.actor_cell.proofs.Mailing.{AreSent-more}
use Rattle.actor_cell.proofs.mail.Mail.send_to_correct.Goals as goal

pub loop-actor-preserved : goal.loop-actor-preserved
loop-actor-preserved g c =
    AreSent-more c.args.self.now.boxes.config (λ d x. if_reached d c.args.script.now c.args.post.now c.args.k c.args.node x) c.loop-actor.actor c.args.self.now c.loop-actor.self
    c.send_to_actor.new.self c.loop-actor.invariant c.send_to_actor.ensures refl
