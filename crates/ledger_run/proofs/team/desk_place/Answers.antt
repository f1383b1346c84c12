use Rattle.std.proofs.Common.{ℕ, ap₂, ◌∙◌}
use Rattle.hb_rules.specs.Book.{BookView}
use Rattle.ledger_run.specs.Actors.{new_seat}
use Rattle.ledger_run.proofs.Places.{actor_ready}
use Rattle.ledger_run.proofs.team.desk_place.Goals as goal

pub desk_of-requires-clause-seat : goal.desk_of-requires-clause-seat
desk_of-requires-clause-seat g c =
    c.seat-seat.ensures.seat
    ∙ ap₂ (λ (b : BookView) (x : ℕ). record (new_seat b.config c.args.node x) { seen = b.posts }) c.requires.book c.n-actor.ensures.value

pub returns-clause-ready : goal.returns-clause-ready
returns-clause-ready g c =
    actor_ready c.args.script.now c.args.node c.args.script.now.config.n c.in_ok-actor.actor c.seat-seat.result c.requires.known c.in_ok-actor.ensures.seat
    (c.seat-seat.ensures.seat
    ∙ ap₂ (λ (b : BookView) (x : ℕ). record (new_seat b.config c.args.node x) { seen = b.posts }) c.requires.book c.n-actor.ensures.value)
    c.in_ok-actor.ensures.player
