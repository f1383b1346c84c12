use Rattle.std.proofs.Common.{All}
use Rattle.actor_cell.specs.Passes.{ArePassesOf}
use Rattle.cell_cases.proofs.mailboxes.take_each.Given as goal

abbrev pub invariant-loop : goal.invariant-loop
invariant-loop g l = All (ArePassesOf l.boxes) l.all.items
