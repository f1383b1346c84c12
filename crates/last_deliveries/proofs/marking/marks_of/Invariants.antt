use Rattle.std.proofs.Common.{take}
use Rattle.last_deliveries.specs.Catching.{AreMarked}
use Rattle.last_deliveries.proofs.marking.marks_of.Given as goal

abbrev pub invariant-loop-number : goal.invariant-loop-number
invariant-loop-number l = AreMarked (take l.number-index l.numbers) l.count l.marks.items
