use Rattle.run_status.proofs.Marking.{marked_none, marked_more}
use Rattle.run_status.proofs.spent.marked.Goals as goal

pub loop-post-init : goal.loop-post-init
loop-post-init c = marked_none c.args.config.now c.no_marks-table.result c.no_marks-table.ensures

pub loop-post-preserved : goal.loop-post-preserved
loop-post-preserved c =
    marked_more c.args.config.now c.args.posts.now c.loop-post.post-index c.post-item.result c.loop-post.table c.take_mark.new.table
    c.loop-post-test.true c.post-item.is c.loop-post.invariant c.take_mark.ensures
