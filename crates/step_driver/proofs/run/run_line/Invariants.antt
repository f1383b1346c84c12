use Rattle.std.proofs.Common.{◌+◌, ◌<◌, ◌^◌, length}
use Rattle.step_driver.specs.Places.{spots}
use Rattle.step_driver.specs.Delivering.{weight}
use Rattle.step_driver.specs.Running.{GoesOn}
use Rattle.step_driver.proofs.run.run_line.Given as goal

abbrev pub invariant-line : goal.invariant-line
invariant-line g l =
    let old = spots g.A.Actor.seat g.A.Actor.view l.fn.places.items in
    let new = spots g.A.Actor.seat g.A.Actor.view l.places.items in
    record {
      goes : GoesOn l.script (length old) l.fn.book l.book old new l.fn.line l.line;
      words : l.words.word_pos + weight l.book.posts new l.line + 1 < 2 ^ 68;
    }

abbrev pub decreases-line : goal.decreases-line
decreases-line g l = weight l.book.posts (spots g.A.Actor.seat g.A.Actor.view l.places.items) l.line
