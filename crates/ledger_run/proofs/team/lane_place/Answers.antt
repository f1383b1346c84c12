use Rattle.std.proofs.Common.{ap, ◌∙◌}
use Rattle.hb_rules.specs.Book.{BookView}
use Rattle.ledger_run.specs.Actors.{new_seat}
use Rattle.ledger_run.proofs.Places.{actor_ready}
use Rattle.ledger_run.proofs.team.lane_place.Goals as goal

pub lane_of-requires-clause-seat : goal.lane_of-requires-clause-seat
lane_of-requires-clause-seat g c =
    c.seat-seat.ensures.seat ∙ ap (λ (b : BookView). record (new_seat b.config c.args.node c.args.lane) { seen = b.posts }) c.requires.book

pub returns-clause-ready : goal.returns-clause-ready
returns-clause-ready g c =
    actor_ready c.args.script.now c.args.node c.args.lane c.in_ok-actor.actor c.seat-seat.result c.requires.known c.in_ok-actor.ensures.seat
    (c.seat-seat.ensures.seat ∙ ap (λ (b : BookView). record (new_seat b.config c.args.node c.args.lane) { seen = b.posts }) c.requires.book)
    c.in_ok-actor.ensures.player
