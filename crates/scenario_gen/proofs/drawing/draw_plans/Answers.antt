use Rattle.std.proofs.Common.{◌≡◌, ◌+◌, ◌*◌, [], map, ap, ◌∙◌, arith}
use Rattle.std.proofs.lemmas.List.{map_push}
use Rattle.net_script.specs.Scenario.{planned}
use Rattle.seed_words.specs.Words.{moved_by, word_of}
use Rattle.seed_words.proofs.Moving.{moved_more, one_more}
use Rattle.scenario_gen.specs.Generated.{plan_of, stops_place}
use Rattle.scenario_gen.proofs.Drawn.{plan_moved}
use Rattle.scenario_gen.proofs.drawing.draw_plans.Goals as goal

pub loop-node-preserved : goal.loop-node-preserved
loop-node-preserved c =
    let g = c.args.words.now in
    let n = c.args.n in
    let node = c.loop-node.node in
    let drawn = plan_moved g c.loop-node.words (3 * node) (stops_place n + 3 * node) n node _ c.loop-node.invariant.moved
    (ap (λ place. place + 3 * node) c.requires.place) c.in_ok-plan.ensures.drawn in
    let next : 3 * node + 3 ≡ 3 * (node + 1) = omega arith in
    record {
      drawn = one_more (plan_of n (word_of g)) [] (map planned c.loop-node.drawn.items) _ _ node c.loop-node.invariant.drawn
          (ap (map planned) c.in_ok-push.ensures.items ∙ map_push planned c.loop-node.drawn.items _) drawn;
      moved = c.in_ok-plan.ensures.moved ∙ moved_more g c.loop-node.words (3 * node) 3 c.loop-node.invariant.moved ∙ ap (moved_by g) next;
    }
