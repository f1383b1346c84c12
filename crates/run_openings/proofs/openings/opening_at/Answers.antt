use Rattle.std.proofs.Common.{List, [], ◌∷◌, true, ap, ◌∙◌, subst}
use Rattle.actor_cell.specs.Passes.{PassesView}
use Rattle.step_driver.specs.Places.{Name}
use Rattle.ledger_run.specs.Team.{names_below}
use Rattle.run_openings.specs.Seating.{AreMade}
use Rattle.run_openings.proofs.Places.{lies_here, liar_place, liar_within, some_left, next_opening, liar_made, named, names_lying}
use Rattle.run_openings.proofs.openings.opening_at.Goals as goal

pub seat_next-requires-clause-left : goal.seat_next-requires-clause-left
seat_next-requires-clause-left g c =
    let conf = g.K.Naming.config in
    let i = c.args.node in
    let lies = lies_here conf c.config.result c.liars.result i (c.config.ensures ∙ c.requires.config) c.liars.ensures.value c.if-has.ensures in
    some_left conf c.args.boxes.now c.args.book.now (names_below conf i) i 0 c.args.first.now c.args.passes.now.items c.requires.made
    (liar_within conf i lies c.requires.known)

pub returns-then-has-clause-made : goal.returns-then-has-clause-made
returns-then-has-clause-made g c =
    let conf = g.K.Naming.config in
    let i = c.args.node in
    let boxes = c.args.boxes.now in
    let book = c.args.book.now in
    let first = c.args.first.now in
    let lies = lies_here conf c.config.result c.liars.result i (c.config.ensures ∙ c.requires.config) c.liars.ensures.value c.if-has.ensures in
    liar_made conf boxes book i first c.seat_next.result.passes c.seat_next.new.passes.items c.seat_next.new.first lies
    (subst (λ (all : List PassesView). AreMade conf boxes book (names_below conf i) i 0 first all) c.seat_next.ensures.passes c.requires.made)
    c.seat_next.ensures.first

pub returns-then-has-clause-opening : goal.returns-then-has-clause-opening
returns-then-has-clause-opening g c =
    let conf = g.K.Naming.config in
    let i = c.args.node in
    let boxes = c.args.boxes.now in
    let book = c.args.book.now in
    let first = c.args.first.now in
    let lies = lies_here conf c.config.result c.liars.result i (c.config.ensures ∙ c.requires.config) c.liars.ensures.value c.if-has.ensures in
    record {
      opening =
          next_opening conf boxes book (names_below conf i) i 0 first c.seat_next.result c.seat_next.new.passes.items 255
          (subst (λ (all : List PassesView). AreMade conf boxes book (names_below conf i) i 0 first all) c.seat_next.ensures.passes c.requires.made)
          c.seat_next.ensures.place c.seat_next.ensures.seat c.requires.known (liar_place conf i 255 lies);
      lies = rw c.seat_next.ensures.place.0 lies;
      actor = c.seat_next.ensures.place.1;
    }

pub returns-then-has-clause-names : goal.returns-then-has-clause-names
returns-then-has-clause-names g c =
    let conf = g.K.Naming.config in
    let lies = lies_here conf c.config.result c.liars.result c.args.node (c.config.ensures ∙ c.requires.config) c.liars.ensures.value c.if-has.ensures in
    ap (λ (name : Name). name ∷ []) (named true c.args.node 255 c.seat_next.result c.seat_next.ensures.place) ∙ names_lying conf c.args.node lies
