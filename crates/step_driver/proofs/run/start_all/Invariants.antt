use Rattle.step_driver.specs.Places.{spots}
use Rattle.step_driver.specs.Running.{GoesOn}
use Rattle.step_driver.proofs.run.start_all.Given as goal

abbrev pub invariant-loop-number : goal.invariant-loop-number
invariant-loop-number g l = GoesOn l.script l.number l.fn.book l.book (spots g.A.Actor.seat g.A.Actor.view l.fn.places.items) (spots g.A.Actor.seat g.A.Actor.view l.places.items) l.fn.line l.line
