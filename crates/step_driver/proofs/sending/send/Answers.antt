use Rattle.std.proofs.Common.{length, refl}
use native.Mathlib.Omega.{arith}
use Rattle.step_driver.specs.Places.{spots}
use Rattle.step_driver.proofs.Sendings.{IsSending-start, IsSending-step, AreSent-end, post_at}
use Rattle.step_driver.proofs.sending.send.Goals as goal

pub loop-k-init : goal.loop-k-init
loop-k-init g c = IsSending-start c.args.config.now c.args.script.now c.args.posts.now (spots g.A.Actor.seat g.A.Actor.view c.args.places.now) c.args.first c.args.line.now

pub loop-k-preserved : goal.loop-k-preserved
loop-k-preserved g c =
    let all = spots g.A.Actor.seat g.A.Actor.view c.args.places.now in
    let post = c.index-posts-k.result in
    IsSending-step c.args.config.now c.args.script.now c.args.posts.now all c.args.first c.loop-k.k (length all) post c.args.line.now c.loop-k.line c.send_post.new.line
    c.loop-k.auto.k c.requires.few refl (post_at c.args.posts.now c.loop-k.k post (omega arith) c.index-posts-k.is) c.in_ok-send_post.ensures c.loop-k.invariant

pub returns : goal.returns
returns g c =
    AreSent-end c.args.config.now c.args.script.now c.args.posts.now (spots g.A.Actor.seat g.A.Actor.view c.args.places.now) c.args.first c.loop-k.k c.args.line.now c.loop-k.line
    (omega arith) c.loop-k.invariant
