use Rattle.std.proofs.Common.{◌≡◌, ◌+◌, ◌∷◌, ◌++◌, [], List, Bool, false, ap, sym, ◌∙◌, subst}
use Rattle.std.proofs.lemmas.List.{map-append}
use Rattle.hb_base.specs.NodeSet.{is_in}
use Rattle.step_driver.specs.Places.{Spot, spot_of, spots}
use Rattle.ledger_run.specs.Actors.{node_seat, node_view}
use Rattle.ledger_run.specs.Team.{AreReady, names_below}
use Rattle.ledger_run.proofs.Steps.{lying_done, correct_done, actor_more}
use Rattle.ledger_run.proofs.team.add_node.Goals as goal

pub returns-then-has-clause-ready : goal.returns-then-has-clause-ready
returns-then-has-clause-ready g c =
    let s = c.args.script.now in
    let before = spots node_seat node_view c.args.places.now.items in
    let more : spots node_seat node_view c.push.new.self.items ≡ before ++ spot_of node_seat node_view c.lying_place-place.result ∷ [] =
    ap (spots node_seat node_view) c.in_ok-push.ensures.items ∙ map-append (spot_of node_seat node_view) c.args.places.now.items (c.lying_place-place.result ∷ []) in
    subst (λ (all : List Spot). AreReady s (names_below s.config (c.args.node + 1)) all) (sym more)
    (lying_done s c.args.node before (spot_of node_seat node_view c.lying_place-place.result) (ap (λ (l : List Bool). is_in l c.args.node) (sym c.liars.ensures.value) ∙ sym c.if-has.ensures) c.requires.ready c.lying_place-place.ensures.ready c.lying_place-place.ensures.named)

pub returns-clause-ready : goal.returns-clause-ready
returns-clause-ready g c =
    let s = c.args.script.now in
    let before = spots node_seat node_view c.add_lanes.new.places.items in
    let spot = spot_of node_seat node_view c.in_ok-place.place in
    let more : spots node_seat node_view c.push-2.new.self.items ≡ before ++ spot ∷ [] =
    ap (spots node_seat node_view) c.in_ok-push-2.ensures.items ∙ map-append (spot_of node_seat node_view) c.add_lanes.new.places.items (c.in_ok-place.place ∷ []) in
    let honest : is_in s.config.liars c.args.node ≡ false = ap (λ (l : List Bool). is_in l c.args.node) (sym c.liars.ensures.value) ∙ sym c.if-has.ensures in
    subst (λ (all : List Spot). AreReady s (names_below s.config (c.args.node + 1)) all) (sym more)
    (correct_done s c.args.node (before ++ spot ∷ []) honest
    (actor_more s c.args.node s.config.n before spot c.in_ok-add_lanes.ensures.ready c.in_ok-place.ensures.ready c.in_ok-place.ensures.named))
