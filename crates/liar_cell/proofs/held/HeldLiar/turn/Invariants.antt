use Rattle.std.proofs.Common.{ℕ, List}
use Rattle.liar_cell.specs.LiarTurns.{GoesOn, HoldsBack}
use Rattle.liar_cell.proofs.held.HeldLiar.turn.Given as goal

-- the numbers that were taken so far are held back
abbrev pub invariant-loop : goal.invariant-loop
invariant-loop g l =
    let b = g.B.Book in
    record {
      goes : GoesOn b.moved l.fn.self l.self;
      held : (back : List ℕ) × HoldsBack back l.fn.self l.self;
    }
