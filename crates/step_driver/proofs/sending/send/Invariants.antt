use Rattle.step_driver.specs.Places.{spots}
use Rattle.step_driver.proofs.Sendings.{IsSending}
use Rattle.step_driver.proofs.sending.send.Given as goal

abbrev pub invariant-loop-k : goal.invariant-loop-k
invariant-loop-k g l = IsSending l.config l.script l.posts (spots g.A.Actor.seat g.A.Actor.view l.places) l.first l.k l.fn.line l.line
