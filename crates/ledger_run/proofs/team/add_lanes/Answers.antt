use Rattle.std.proofs.Common.{◌≡◌, ◌+◌, ◌∷◌, ◌++◌, [], List, map, ap, sym, ◌∙◌, subst}
use Rattle.std.specs.List.{range_with_len}
use Rattle.std.proofs.lemmas.List.{map-append}
use Rattle.step_driver.specs.Places.{Spot, spot_of, spots}
use Rattle.ledger_run.specs.Actors.{node_seat, node_view}
use Rattle.ledger_run.specs.Team.{AreReady, correct_name, names_below}
use Rattle.ledger_run.proofs.Steps.{actor_more}
use Rattle.ledger_run.proofs.team.add_lanes.Goals as goal

pub loop-lane-preserved : goal.loop-lane-preserved
loop-lane-preserved g c =
    let s = c.args.script.now in
    let before = spots node_seat node_view c.loop-lane.places.items in
    let spot = spot_of node_seat node_view c.in_ok-place.place in
    let more : spots node_seat node_view c.push.new.self.items ≡ before ++ spot ∷ [] =
    ap (spots node_seat node_view) c.in_ok-push.ensures.items ∙ map-append (spot_of node_seat node_view) c.loop-lane.places.items (c.in_ok-place.place ∷ []) in
    record {
      book = c.in_ok-place.ensures.book ∙ c.loop-lane.invariant.book;
      ready = subst (λ (all : List Spot). AreReady s (names_below s.config c.args.node ++ map (correct_name c.args.node) (range_with_len 0 (c.loop-lane.lane + 1))) all) (sym more)
          (actor_more s c.args.node c.loop-lane.lane before spot c.loop-lane.invariant.ready c.in_ok-place.ensures.ready c.in_ok-place.ensures.named);
    }
