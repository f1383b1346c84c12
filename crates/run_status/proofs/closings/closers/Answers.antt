use Rattle.run_status.proofs.Closing.{closers_none, closers_more}
use Rattle.run_status.proofs.closings.closers.Goals as goal

pub loop-post-init : goal.loop-post-init
loop-post-init c = closers_none c.args.config.now c.new-nodes.result c.new-nodes.ensures.members

pub loop-post-preserved : goal.loop-post-preserved
loop-post-preserved c =
    closers_more c.args.config.now c.args.posts.now c.loop-post.post-index c.post-item.result c.loop-post.nodes c.add_closer.new.nodes
    c.loop-post-test.true c.post-item.is c.loop-post.invariant c.add_closer.ensures
