use Rattle.std.proofs.Common.{arith}
use Rattle.votes_app.proofs.Lines.{no_line, rest_short, has_line}
use Rattle.votes_app.proofs.posts.next_post.Goals as goal

pub returns-in-None : goal.returns-in-None
returns-in-None c = no_line c.args.bytes.now c.args.k c.from.result c.from.ensures (rw c.in-None.is at c.in_ok-post_at.ensures)

pub overflow_sub-used : goal.overflow_sub-used
overflow_sub-used c =
    rest_short c.args.bytes.now c.in-Some.rest.now c.from.result c.in-Some.post (λ i. omega (arith, c.type_inv.bytes i)) (rw c.in-Some.is at c.in_ok-post_at.ensures)

pub returns-in-Some : goal.returns-in-Some
returns-in-Some c =
    has_line c.args.bytes.now c.in-Some.rest.now c.args.k c.from.result c.in-Some.post (λ i. omega (arith, c.type_inv.bytes i)) c.from.ensures (rw c.in-Some.is at c.in_ok-post_at.ensures)
