use Rattle.std.proofs.Common.{take}
use Rattle.step_driver.specs.Places.{spots, names}
use Rattle.step_driver.specs.Directory.{IsDirectory}
use Rattle.step_driver.proofs.directory.Directory.of.Given as goal

abbrev pub invariant-loop-number : goal.invariant-loop-number
invariant-loop-number g l = IsDirectory l.config.n l.directory (take l.number (names (spots g.A.Actor.seat g.A.Actor.view l.places)))
