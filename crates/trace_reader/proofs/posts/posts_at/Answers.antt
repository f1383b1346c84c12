use Rattle.std.proofs.Common.{◌≡◌, ◌<◌, ◌^◌, length, arith}
use Rattle.trace_reader.proofs.Whole.{read_more, no_more}
use Rattle.trace_reader.proofs.posts.posts_at.Goals as goal

pub returns-in-None-clause-last : goal.returns-in-None-clause-last
returns-in-None-clause-last c =
    let count : c.len.result ≡ length c.loop-posts.posts.items = omega (arith, c.len.ensures, c.loop-posts.posts.ok.0) in
    no_more c.loop-posts.rest.now c.len.result (length c.loop-posts.posts.items) count (rw c.in-None.is at c.in_ok-post_at.ensures)

pub loop-posts-smaller : goal.loop-posts-smaller
loop-posts-smaller c =
    let count : c.len.result ≡ length c.loop-posts.posts.items = omega (arith, c.len.ensures, c.loop-posts.posts.ok.0) in
    let small : c.len.result < 2 ^ 64 = omega (arith, count, c.loop-posts.invariant.few, c.requires) in
    (read_more c.args.bytes.now c.loop-posts.rest.now c.in-Some.later.now c.loop-posts.posts.items c.len.result c.in-Some.post (λ i. omega (arith, c.type_inv.bytes i)) count small
    (rw c.in-Some.is at c.in_ok-post_at.ensures)
    (record { each = c.loop-posts.invariant.each; text = c.loop-posts.invariant.text; few = c.loop-posts.invariant.few })).1

pub loop-posts-preserved : goal.loop-posts-preserved
loop-posts-preserved c =
    let count : c.len.result ≡ length c.loop-posts.posts.items = omega (arith, c.len.ensures, c.loop-posts.posts.ok.0) in
    let small : c.len.result < 2 ^ 64 = omega (arith, count, c.loop-posts.invariant.few, c.requires) in
    let more =
    read_more c.args.bytes.now c.loop-posts.rest.now c.in-Some.later.now c.loop-posts.posts.items c.len.result c.in-Some.post (λ i. omega (arith, c.type_inv.bytes i)) count small
    (rw c.in-Some.is at c.in_ok-post_at.ensures)
    (record { each = c.loop-posts.invariant.each; text = c.loop-posts.invariant.text; few = c.loop-posts.invariant.few }) in
    rw c.in_ok-push-in-Some.ensures.items (record { each = more.0.each; text = more.0.text; few = more.0.few })
