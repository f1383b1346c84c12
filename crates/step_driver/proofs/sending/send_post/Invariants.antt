use Rattle.step_driver.specs.Places.{spots}
use Rattle.step_driver.specs.Directory.{led_to}
use Rattle.step_driver.proofs.Sendings.{AreSentIn}
use Rattle.step_driver.proofs.sending.send_post.Given as goal

abbrev pub invariant-loop-number : goal.invariant-loop-number
invariant-loop-number g l = AreSentIn l.config l.script l.post l.k (spots g.A.Actor.seat g.A.Actor.view l.places) (led_to l.directory l.post) l.number-index l.fn.line l.line
