use Rattle.std.proofs.Common.{ℕ, List, [], ◌∷◌, ◌++◌, map, sym, ap, ◌∙◌, arith, sum_by}
use Rattle.std.specs.Vec.Iter.{into_iter_items}
use Rattle.std.proofs.lemmas.List.{map_push}
use Rattle.std.proofs.lemmas.List.Sums.{sum_by_push}
use Rattle.step_driver.specs.Places.{seat_at}
use Rattle.node_workers.specs.Rounds.{locks_of}
use Rattle.run_openings.specs.Opening.{IsNodeOpening, places_of}
use Rattle.thread_team.proofs.Rows.{gone_on, next_has}
use Rattle.thread_team.proofs.starting.begin_all.Goals as goal

pub begin_node-requires-clause-opening : goal.begin_node-requires-clause-opening
begin_node-requires-clause-opening g c =
    let b = g.B.Book in
    next_has (IsNodeOpening (b.knows c.args.book) (seat_at b.config b.node b.actor b.seen) c.args.boxes.now c.args.script.now.config)
    c.loop-opening.yielded (into_iter_items c.loop-opening.opening-iterator) (into_iter_items c.next.new.self) c.args.openings.items c.in-Some.opening
    c.in-Some.ensures.steps.0 c.loop-opening.invariant.split c.requires.openings

pub loop-opening-preserved : goal.loop-opening-preserved
loop-opening-preserved g c = record {
  split =
      gone_on c.loop-opening.yielded (into_iter_items c.loop-opening.opening-iterator) (into_iter_items c.next.new.self) c.args.openings.items c.in-Some.opening
      c.in-Some.ensures.steps.0 c.loop-opening.invariant.split;
  each =
      ap (map locks_of) c.in_ok-push.ensures.items ∙ map_push locks_of c.loop-opening.nodes.items c.in_ok-node.node
      ∙ ap (λ (ks : List ℕ). ks ++ locks_of c.in_ok-node.node ∷ []) c.loop-opening.invariant.each
      ∙ ap (λ (k : ℕ). map places_of c.loop-opening.yielded ++ k ∷ []) c.in_ok-node.ensures.count
      ∙ sym (map_push places_of c.loop-opening.yielded c.in-Some.opening);
  count =
      omega (
        arith,
        ap (sum_by locks_of) c.in_ok-push.ensures.items,
        sum_by_push locks_of c.loop-opening.nodes.items c.in_ok-node.node,
        sum_by_push places_of c.loop-opening.yielded c.in-Some.opening,
        c.loop-opening.invariant.count,
        c.in_ok-node.ensures,
      );
}
