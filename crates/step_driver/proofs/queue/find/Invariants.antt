use Rattle.std.proofs.Common.{◌≡◌, ◌+◌, length, take}
use Rattle.step_driver.specs.Blocks.{joined}
use Rattle.step_driver.proofs.queue.find.Given as goal

abbrev pub invariant-loop-number : goal.invariant-loop-number
invariant-loop-number l = length (joined (take l.number l.blocks)) + l.left ≡ l.at
