use Rattle.std.proofs.Common.{◌≤◌, length}
use Rattle.liar_cell.specs.LiarTurns.{GoesOn, IsQuiet, TakesNothing, PutsOwn}
use Rattle.liar_cell.proofs.held.HeldLiar.send.Given as goal

-- the numbers of its posts so far are put
abbrev pub invariant-loop-k : goal.invariant-loop-k
invariant-loop-k g l =
    let b = g.B.Book in
    record {
      goes : GoesOn b.moved l.fn.self l.self;
      quiet : IsQuiet l.fn.self l.self;
      nothing : TakesNothing l.fn.self l.self;
      within : l.end ≤ length l.self.seat.seen;
      so_far : l.k ≤ l.end;
      told : PutsOwn l.first l.k l.fn.self l.self;
    }
