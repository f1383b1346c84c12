use Rattle.std.proofs.Common.{arith}
use Rattle.std.proofs.lemmas.Result.{err_from_is_err_and}
use Rattle.ledger_text.proofs.Order.{writes_on, writes_stop}
use Rattle.trace_text.proofs.Numbered.{posts_step, posts_split}
use Rattle.trace_text.proofs.text.put_posts.Goals as goal

pub returns-in_err-put_post : goal.returns-in_err-put_post
returns-in_err-put_post g c =
    let p = err_from_is_err_and c.from_residual.result c.from_residual.ensures.1 in
    rw p.1 (writes_stop _ (posts_split c.args.posts.now c.loop-k.k c.index-posts-k.result c.index-posts-k.result (omega arith) c.index-posts-k.is)
    c.loop-k.invariant c.in_err-put_post.ensures)

pub loop-k-preserved : goal.loop-k-preserved
loop-k-preserved g c =
    writes_on (posts_step c.args.posts.now c.loop-k.k c.index-posts-k.result c.index-posts-k.result (omega arith) c.index-posts-k.is) c.loop-k.invariant
    c.in_ok-put_post.ensures
