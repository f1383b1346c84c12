use Rattle.std.proofs.Common.{◌≡◌, length, map}
use Rattle.std.specs.Prelude.{All, sum_by}
use Rattle.std.specs.List.{range_with_len}
use Rattle.post_book.specs.SharedSeats.{SharedView}
use Rattle.ledger_run.specs.Team.{names_at, names_below}
use Rattle.run_openings.specs.Opening.{IsNodeOpening, opening_names, places_of}
use Rattle.run_openings.specs.Seating.{AreMade}
use Rattle.run_openings.proofs.openings.openings_of.Given as goal

-- the seats of the nodes so far are made, each with its passes, in their order
abbrev pub invariant-loop-node : goal.invariant-loop-node
invariant-loop-node g l = record {
  made : AreMade g.K.Naming.config l.boxes l.book (names_below g.K.Naming.config l.node) l.node 0 l.first l.passes.items;
  openings : All (IsNodeOpening (λ (seat : SharedView). seat.book ≡ l.book) (λ (seat : SharedView). seat.seat) l.boxes g.K.Naming.config) l.openings.items;
  names : map opening_names l.openings.items ≡ map (names_at g.K.Naming.config) (range_with_len 0 l.node);
  count : sum_by places_of l.openings.items ≡ length (names_below g.K.Naming.config l.node);
}
