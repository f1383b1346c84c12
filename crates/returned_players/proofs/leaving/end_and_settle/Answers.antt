use Rattle.std.proofs.Common.{◌≡◌, ◌+◌, List, length, map, sym, ap, subst, arith}
use Rattle.std.specs.Prelude.{All}
use Rattle.std.specs.List.{AllPairs}
use Rattle.std.specs.List.Sorted.{IsNonDecreasingBy}
use Rattle.std.proofs.lemmas.List.{length-map}
use Rattle.step_driver.specs.declared.player.Player.{Player}
use Rattle.ledger_run.specs.Team.{names_below}
use Rattle.step_driver.specs.Places.{seat_at}
use Rattle.last_deliveries.specs.Settling.{seats_at, player_of, players_of, IsOfRun}
use Rattle.run_closing.specs.Returning.{IsBack, IsNotAfter}
use Rattle.returned_players.specs.Marking.{ended_by, EndsIfMarked}
use Rattle.returned_players.specs.Ordering.{place_number}
use Rattle.returned_players.proofs.Noted.{All-ended, order_ended}
use Rattle.returned_players.proofs.Backs.{back_ended, views_in_order}
use Rattle.returned_players.proofs.Leavings.{all_of_run, HaveReturned-settled}
use Rattle.returned_players.proofs.Marked.{marked_ended, marked_gone_on}
use Rattle.returned_players.proofs.leaving.end_and_settle.Goals as goal

pub settle-requires-clause-seats : goal.settle-requires-clause-seats
settle-requires-clause-seats g c κs within =
    let b = g.B.Book in
    let a = g.A.Actor in
    subst (λ (ps : List (Player _)). All (λ player. b.knows c.args.book.now (a.seat player.actor)) ps) (sym c.end_noted.ensures)
    (All-ended b.node b.actor a.seat c.args.noted.now (λ player. b.knows c.args.book.now (a.seat player.actor)) (λ player known. known) c.args.players.now.items c.requires.seats)

pub settle-requires-clause-players : goal.settle-requires-clause-players
settle-requires-clause-players g c κs within =
    let b = g.B.Book in
    let a = g.A.Actor in
    subst (λ (ps : List (Player _)). All (IsOfRun c.args.script.now) (players_of b.config b.node b.actor b.seen a.seat a.view ps)) (sym c.end_noted.ensures)
    (all_of_run c.args.script.now (players_of b.config b.node b.actor b.seen a.seat a.view (map (ended_by b.node b.actor a.seat c.args.noted.now) c.args.players.now.items))
    (back_ended b.config b.node b.actor b.seen a.seat a.view c.args.script.now c.args.noted.now c.args.players.now.items c.requires.back))

pub returns-clause-returned : goal.returns-clause-returned
returns-clause-returned g c =
    let b = g.B.Book in
    let a = g.A.Actor in
    let s = c.args.script.now in
    let was = c.args.players.now.items in
    let ended = c.end_noted.new.players.items in
    let liars = c.args.liars.now.items in
    let settled = c.in_ok-settle.ensures in
    let back : All (IsBack s) (players_of b.config b.node b.actor b.seen a.seat a.view ended) =
    subst (λ (ps : List (Player _)). All (IsBack s) (players_of b.config b.node b.actor b.seen a.seat a.view ps)) (sym c.end_noted.ensures)
    (back_ended b.config b.node b.actor b.seen a.seat a.view s c.args.noted.now was c.requires.back) in
    let order : AllPairs IsNotAfter (players_of b.config b.node b.actor b.seen a.seat a.view ended) =
    views_in_order b.config b.node b.actor b.seen a.seat a.view ended
    (subst (λ (ps : List (Player _)). IsNonDecreasingBy (place_number b.node b.actor a.seat) ps) (sym c.end_noted.ensures)
    (order_ended b.node b.actor a.seat c.args.noted.now was c.requires.in_order)) in
    let count :
    length (players_of b.config b.node b.actor b.seen a.seat a.view ended) + length (seats_at b.config b.node b.actor b.seen liars) ≡ length (names_below s.config s.config.n) =
    omega (
      arith,
      c.requires.all,
      ap (λ (ps : List (Player _)). length ps) c.end_noted.ensures,
      length-map was (ended_by b.node b.actor a.seat c.args.noted.now),
      length-map ended (player_of b.config b.node b.actor b.seen a.seat a.view),
      length-map liars (seat_at b.config b.node b.actor b.seen),
    ) in (
      c.in_ok-settle.field-0.posts,
      HaveReturned-settled s c.in_ok-settle.field-0.posts (players_of b.config b.node b.actor b.seen a.seat a.view ended)
          (players_of b.config b.node b.actor b.seen a.seat a.view c.settle.new.players.items) (seats_at b.config b.node b.actor b.seen liars)
          (seats_at b.config b.node b.actor b.seen c.settle.new.liars.items) back order c.requires.liars count settled.went settled.players settled.watched settled.settled,
    )

pub returns-clause-noted : goal.returns-clause-noted
returns-clause-noted g c =
    let b = g.B.Book in
    let a = g.A.Actor in
    let marks = c.args.noted.now in
    let ended =
    subst (λ (ps : List (Player _)). All (λ p. EndsIfMarked marks p.seat.node p.seat.actor p.fate) (players_of b.config b.node b.actor b.seen a.seat a.view ps)) (sym c.end_noted.ensures)
    (marked_ended b.config b.node b.actor b.seen a.seat a.view marks c.args.players.now.items) in
    marked_gone_on marks (players_of b.config b.node b.actor b.seen a.seat a.view c.end_noted.new.players.items)
    (players_of b.config b.node b.actor b.seen a.seat a.view c.settle.new.players.items) c.in_ok-settle.ensures.went ended
