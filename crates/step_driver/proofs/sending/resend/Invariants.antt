use Rattle.step_driver.specs.Delivering.{AreResentTo}
use Rattle.step_driver.proofs.sending.resend.Given as goal

abbrev pub invariant-loop-k : goal.invariant-loop-k
invariant-loop-k l = AreResentTo l.config l.script l.posts l.to.place l.to.node l.to.actor l.k l.fn.line l.line
