use Rattle.std.proofs.Common.{◌≡◌, ◌+◌, ◌++◌, length, sum_by}
use Rattle.std.specs.Vec.Iter.{into_iter_items}
use Rattle.node_workers.specs.Rounds.{locks_of}
use Rattle.thread_team.specs.Returning.{AreOut}
use Rattle.thread_team.proofs.returning.take_out.Given as goal

-- what is at the nodes so far was taken out
abbrev pub invariant-loop-node : goal.invariant-loop-node
invariant-loop-node g l = record {
  split : l.yielded ++ into_iter_items l.node-iterator ≡ l.fn.nodes.items;
  out : AreOut (g.B.Book.knows l.book) g.B.Book.config g.B.Book.node g.B.Book.actor g.B.Book.seen g.A.Actor.seat g.A.Actor.view l.script l.all;
  count : length l.all.players.items + length l.all.liars.items ≡ sum_by locks_of l.yielded;
}
