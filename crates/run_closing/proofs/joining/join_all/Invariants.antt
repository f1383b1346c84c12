use Rattle.std.proofs.Common.{◌≡◌, ◌++◌}
use Rattle.std.specs.Vec.Iter.{into_iter_items}
use Rattle.run_closing.specs.Joining.{seats_in, HasJoined}
use Rattle.run_closing.proofs.joining.join_all.Given as goal

abbrev pub invariant-loop-seat : goal.invariant-loop-seat
invariant-loop-seat g l = record {
  joined : HasJoined g.K.Naming.config (seats_in l.yielded) l.initial.first l.first;
  split : l.yielded ++ into_iter_items l.seat-iterator ≡ l.fn.seats.items;
}
