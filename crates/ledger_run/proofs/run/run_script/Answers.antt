use Rattle.std.proofs.Common.{◌≡◌, [], ap, sym, ◌∙◌, subst}
use Rattle.hb_base.specs.Numbers.{Numbers}
use Rattle.hb_rules.specs.Book.{BookView}
use Rattle.step_driver.specs.Places.{spots, names}
use Rattle.step_driver.specs.Delivering.{IsStage}
use Rattle.step_driver.specs.Running.{IsTeam}
use Rattle.ledger_run.specs.Actors.{node_seat, node_view}
use Rattle.ledger_run.proofs.Ready.{ready_team, ready_stage}
use Rattle.ledger_run.proofs.run.run_script.Goals as goal

pub run_steps-requires-clause-team : goal.run_steps-requires-clause-team
run_steps-requires-clause-team g c lifetimes outlive =
    let all = spots node_seat node_view c.in_ok-places.places.items in
    let book : c.places_of.new.book ≡ record { config = c.args.script.config; posts = [] } = c.in_ok-places.ensures.book ∙ c.new-book.ensures in
    subst (λ (d : Numbers). IsTeam d (names all)) (sym (ap (λ (b : BookView). b.config) book))
    (ready_team c.args.script all c.requires.scenario c.in_ok-places.ensures.ready)

pub run_steps-requires-clause-stage : goal.run_steps-requires-clause-stage
run_steps-requires-clause-stage g c lifetimes outlive =
    let all = spots node_seat node_view c.in_ok-places.places.items in
    let book : c.places_of.new.book ≡ record { config = c.args.script.config; posts = [] } = c.in_ok-places.ensures.book ∙ c.new-book.ensures in
    subst (λ (d : Numbers). IsStage d c.args.script 0 [] all) (sym (ap (λ (b : BookView). b.config) book))
    (ready_stage c.args.script all c.liars-sound.ensures.sound.nodes.1 c.in_ok-places.ensures.ready)
