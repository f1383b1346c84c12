use Rattle.std.proofs.Common.{◌≡◌, ◌++◌, map}
use Rattle.std.specs.List.{range_with_len}
use Rattle.step_driver.specs.Places.{spots}
use Rattle.ledger_run.specs.Actors.{node_seat, node_view}
use Rattle.ledger_run.specs.Team.{AreReady, correct_name, names_below}
use Rattle.ledger_run.proofs.team.add_lanes.Given as goal

-- the book is as it was, and the places of the lanes so far are ready
abbrev pub invariant-loop-lane : goal.invariant-loop-lane
invariant-loop-lane g l = record {
  book : l.book ≡ l.fn.book;
  ready : AreReady l.script (names_below l.script.config l.node ++ map (correct_name l.node) (range_with_len 0 l.lane)) (spots node_seat node_view l.places.items);
}
