use Rattle.std.proofs.Common.{◌≡◌, ◌++◌, map, sum_by}
use Rattle.std.specs.Vec.Iter.{into_iter_items}
use Rattle.node_workers.specs.Rounds.{locks_of}
use Rattle.run_openings.specs.Opening.{places_of}
use Rattle.thread_team.proofs.starting.begin_all.Given as goal

-- what is at each node so far was started
abbrev pub invariant-loop-opening : goal.invariant-loop-opening
invariant-loop-opening g l = record {
  split : l.yielded ++ into_iter_items l.opening-iterator ≡ l.fn.openings.items;
  each : map locks_of l.nodes.items ≡ map places_of l.yielded;
  count : sum_by locks_of l.nodes.items ≡ sum_by places_of l.yielded;
}
