use Rattle.std.proofs.Common.{ap, ◌∙◌}
use Rattle.hb_rules.specs.Book.{BookView, SeatView}
use Rattle.step_driver.specs.Places.{hired_view}
use Rattle.ledger_run.proofs.Ready.{ready_liar}
use Rattle.ledger_run.proofs.team.lying_place.Goals as goal

pub returns-clause-ready : goal.returns-clause-ready
returns-clause-ready g c =
    ready_liar c.args.script.now c.args.node (hired_view c.new.result) c.requires.known c.requires.liar
    (c.new.ensures.view ∙ ap (λ (seat : SeatView). record { seat = seat; said = 0 })
    (c.seat-seat.ensures.seat ∙ ap (λ (b : BookView). record { config = b.config; node = c.args.node; actor = 255; seen = b.posts }) c.requires.book))
