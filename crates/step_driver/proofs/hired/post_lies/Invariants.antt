use Rattle.std.proofs.Common.{take}
use Rattle.step_driver.specs.Telling.{Tells}
use Rattle.step_driver.proofs.hired.post_lies.Given as goal

-- of the lies so far some were posted, in order
abbrev pub invariant-loop-lie : goal.invariant-loop-lie
invariant-loop-lie g l =
    let b = g.B.Book in
    record {
      seat : b.knows l.book l.seat;
      moved : b.moved (b.node l.fn.seat) (b.actor l.fn.seat) l.fn.book l.book;
      told : Tells b.config b.node b.actor b.seen (take l.lie-index l.lies) l.fn.seat l.seat l.said;
    }
