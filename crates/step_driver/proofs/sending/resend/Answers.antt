use Rattle.std.proofs.Common.{◌≡◌, ℕ, subst}
use native.Mathlib.Omega.{arith}
use Rattle.step_driver.specs.Delivering.{AreResentTo}
use Rattle.step_driver.proofs.Sendings.{AreResentTo-start, AreResentTo-step, post_at}
use Rattle.step_driver.proofs.sending.resend.Goals as goal

pub loop-k-init : goal.loop-k-init
loop-k-init c = AreResentTo-start c.args.config.now c.args.script.now c.args.posts.now c.args.to.place c.args.to.node c.args.to.actor c.args.line.now

pub loop-k-preserved : goal.loop-k-preserved
loop-k-preserved c =
    let post = c.index-posts-k.result in
    AreResentTo-step c.args.config.now c.args.script.now c.args.posts.now c.args.to.place c.args.to.node c.args.to.actor c.loop-k.k post c.args.line.now c.loop-k.line c.resend_to.new.line
    (post_at c.args.posts.now c.loop-k.k post (omega arith) c.index-posts-k.is) c.in_ok-resend_to.ensures c.loop-k.invariant

pub returns : goal.returns
returns c =
    let is : c.loop-k.k ≡ c.args.stood = omega arith in
    subst (λ (n : ℕ). AreResentTo c.args.config.now c.args.script.now c.args.posts.now c.args.to.place c.args.to.node c.args.to.actor n c.args.line.now c.loop-k.line) is c.loop-k.invariant
