use Rattle.std.proofs.Common.{◌≡◌, ◌++◌, false, map}
use Rattle.std.specs.Prelude.{All}
use Rattle.std.specs.List.{range_with_len}
use Rattle.post_book.specs.SharedSeats.{SharedView}
use Rattle.ledger_run.specs.Team.{correct_name, names_below}
use Rattle.run_openings.specs.Opening.{IsActorOpening, opening_name}
use Rattle.run_openings.specs.Seating.{AreMade}
use Rattle.run_openings.proofs.openings.actors_at.Given as goal

-- the seats of the actors so far are made, each with its passes, in their order
abbrev pub invariant-loop-actor : goal.invariant-loop-actor
invariant-loop-actor g l = record {
  made : AreMade g.K.Naming.config l.boxes l.book
      (names_below g.K.Naming.config l.node ++ map (correct_name l.node) (range_with_len 0 l.actor)) l.node l.actor l.first l.passes.items;
  openings : All (IsActorOpening (λ (seat : SharedView). seat.book ≡ l.book) (λ (seat : SharedView). seat.seat) l.boxes g.K.Naming.config) l.openings.items;
  names : map (opening_name false) l.openings.items ≡ map (correct_name l.node) (range_with_len 0 l.actor);
}
