use Rattle.std.proofs.Common.{arith}
use Rattle.turn_book.proofs.Seating.{settles}
use Rattle.turn_book.proofs.steps.settle.Goals as goal

pub load-requires : goal.load-requires
load-requires g c = (c.requires.table.0, omega arith, settles g.S.History.entries g.S.History.names _ _ c.args.place.now.me c.requires.out)
