use Rattle.std.proofs.Common.{◌≡◌, ◌+◌, ◌++◌, length}
use Rattle.std.specs.Vec.Iter.{into_iter_items}
use Rattle.thread_team.specs.Returning.{AreOut, StayNoted}
use Rattle.thread_team.proofs.returning.take_actors.Given as goal

-- so many were taken out
abbrev pub invariant-loop-cell : goal.invariant-loop-cell
invariant-loop-cell g l = record {
  split : l.yielded ++ into_iter_items l.cell-iterator ≡ l.fn.cells.items;
  out : AreOut (g.B.Book.knows l.book) g.B.Book.config g.B.Book.node g.B.Book.actor g.B.Book.seen g.A.Actor.seat g.A.Actor.view l.script l.all;
  count : length l.all.players.items ≡ length l.fn.all.players.items + length l.yielded;
  liars : l.all.liars.items ≡ l.fn.all.liars.items;
  noted : StayNoted l.fn.all.noted l.all.noted;
}
