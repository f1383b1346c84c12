use Rattle.std.proofs.Common.{◌≡◌, ◌++◌, length}
use Rattle.std.specs.Vec.Iter.{into_iter_items}
use Rattle.thread_team.proofs.starting.begin_actors.Given as goal

-- each so far was started
abbrev pub invariant-loop-opening : goal.invariant-loop-opening
invariant-loop-opening g l = record {
  split : l.yielded ++ into_iter_items l.opening-iterator ≡ l.fn.openings.items;
  count : length l.cells.items ≡ length l.yielded;
}
