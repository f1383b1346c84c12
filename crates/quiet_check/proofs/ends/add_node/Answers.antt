use Rattle.std.proofs.Common.{◌∙◌}
use Rattle.quiet_check.proofs.Naming.{named_more}
use Rattle.quiet_check.proofs.ends.add_node.Goals as goal

pub loop-actor-preserved : goal.loop-actor-preserved
loop-actor-preserved c =
    c.in_ok-push.ensures.items ∙ named_more c.args.node c.loop-actor.actor c.args.names.now.items c.loop-actor.names.items c.loop-actor.invariant
