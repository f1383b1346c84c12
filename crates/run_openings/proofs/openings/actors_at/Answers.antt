use Rattle.std.proofs.Common.{◌≡◌, ◌+◌, ◌≤◌, ◌∷◌, ◌++◌, List, map, ap, ◌∙◌, subst, arith}
use Rattle.std.specs.List.{range_with_len}
use Rattle.hb_base.specs.Numbers.{Numbers}
use Rattle.actor_cell.specs.Passes.{PassesView}
use Rattle.actor_cell.proofs.Places.{place_within}
use Rattle.post_book.specs.SharedSeats.{SharedView}
use Rattle.ledger_run.specs.Team.{correct_name, names_below}
use Rattle.run_openings.specs.Opening.{IsActorOpening}
use Rattle.run_openings.specs.Seating.{AreMade}
use Rattle.run_openings.proofs.Places.{all_pushed, actor_place, some_left, next_opening, actor_made, node_made, names_pushed, names_honest}
use Rattle.run_openings.proofs.openings.actors_at.Goals as goal

pub seat_next-opening-requires-clause-left : goal.seat_next-opening-requires-clause-left
seat_next-opening-requires-clause-left g c =
    let conf = g.K.Naming.config in
    let i = c.args.node in
    let x = c.loop-actor.actor in
    let known : x ≤ conf.n = omega (arith, c.loop-actor-test.true, c.n-actor-end.ensures.value, ap (λ (k : Numbers). k.n) (c.config.ensures ∙ c.requires.config)) in
    some_left conf c.args.boxes.now c.args.book.now (names_below conf i ++ map (correct_name i) (range_with_len 0 x)) i x c.loop-actor.first
    c.loop-actor.passes.items c.loop-actor.invariant.made
    (omega (arith, actor_place conf i x c.requires.honest, place_within conf i x c.requires.known known))

pub loop-actor-preserved : goal.loop-actor-preserved
loop-actor-preserved g c =
    let conf = g.K.Naming.config in
    let i = c.args.node in
    let x = c.loop-actor.actor in
    let boxes = c.args.boxes.now in
    let book = c.args.book.now in
    let opening = c.seat_next-opening.result in
    let rest = c.seat_next-opening.new.passes.items in
    let names = names_below conf i ++ map (correct_name i) (range_with_len 0 x) in
    let known : x ≤ conf.n = omega (arith, c.loop-actor-test.true, c.n-actor-end.ensures.value, ap (λ (k : Numbers). k.n) (c.config.ensures ∙ c.requires.config)) in
    let made : AreMade conf boxes book names i x c.loop-actor.first (opening.passes ∷ rest) =
    subst (λ (all : List PassesView). AreMade conf boxes book names i x c.loop-actor.first all) c.seat_next-opening.ensures.passes c.loop-actor.invariant.made in
    let place = c.seat_next-opening.ensures.place in
    let is : IsActorOpening (λ (seat : SharedView). seat.book ≡ book) (λ (seat : SharedView). seat.seat) boxes conf opening = record {
      opening = next_opening conf boxes book names i x c.loop-actor.first opening rest x made place c.seat_next-opening.ensures.seat c.requires.known
          (actor_place conf i x c.requires.honest);
      honest = rw place.0 c.requires.honest;
      actor = omega (arith, place.1, known);
    } in
    record {
      made = actor_made conf boxes book i c.loop-actor.first x opening.passes rest c.seat_next-opening.new.first made c.seat_next-opening.ensures.first;
      openings =
          all_pushed (IsActorOpening (λ (seat : SharedView). seat.book ≡ book) (λ (seat : SharedView). seat.seat) boxes conf) c.loop-actor.openings.items
          c.push.new.self.items opening c.in_ok-push.ensures.items c.loop-actor.invariant.openings is;
      names = names_pushed i x c.loop-actor.openings.items c.push.new.self.items opening c.in_ok-push.ensures.items place c.loop-actor.invariant.names;
    }

pub returns-clause-made : goal.returns-clause-made
returns-clause-made g c =
    let conf = g.K.Naming.config in
    let nodes : c.config.result.n ≡ conf.n = ap (λ (k : Numbers). k.n) (c.config.ensures ∙ c.requires.config) in
    let all : c.loop-actor.actor ≡ conf.n + 1 = omega (arith, c.loop-actor-test.false, c.loop-actor.auto.actor-end, c.n-actor-end.ensures.value, nodes) in
    node_made conf c.args.boxes.now c.args.book.now c.args.node c.loop-actor.first c.loop-actor.actor c.loop-actor.passes.items c.requires.honest all
    (omega (arith, all, c.n-actor-end.ensures.value, c.n-actor-end.ensures.bounds.1, nodes)) c.loop-actor.invariant.made

pub returns-clause-names : goal.returns-clause-names
returns-clause-names g c =
    let conf = g.K.Naming.config in
    let nodes : c.config.result.n ≡ conf.n = ap (λ (k : Numbers). k.n) (c.config.ensures ∙ c.requires.config) in
    c.loop-actor.invariant.names
    ∙ names_honest conf c.args.node c.loop-actor.actor c.requires.honest
    (omega (arith, c.loop-actor-test.false, c.loop-actor.auto.actor-end, c.n-actor-end.ensures.value, nodes))
