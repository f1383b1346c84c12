use Rattle.std.proofs.Common.{◌≡◌}
use Rattle.step_driver.specs.Places.{spots}
use Rattle.ledger_run.specs.Actors.{node_seat, node_view}
use Rattle.ledger_run.specs.Team.{AreReady, names_below}
use Rattle.ledger_run.proofs.team.places_of.Given as goal

-- the book is as it was, and the places of the nodes so far are ready
abbrev pub invariant-loop-node : goal.invariant-loop-node
invariant-loop-node g l = record {
  book : l.book ≡ l.fn.book;
  ready : AreReady l.script (names_below l.script.config l.node) (spots node_seat node_view l.places.items);
}
