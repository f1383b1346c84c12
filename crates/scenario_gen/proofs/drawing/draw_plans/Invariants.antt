use Rattle.std.proofs.Common.{◌≡◌, ◌*◌, map}
use Rattle.std.specs.List.{range_with_len}
use Rattle.seed_words.specs.Words.{moved_by, word_of}
use Rattle.net_script.specs.Scenario.{planned}
use Rattle.scenario_gen.specs.Generated.{plan_of}
use Rattle.scenario_gen.proofs.drawing.draw_plans.Given as goal

-- the plans drawn so far
abbrev pub invariant-loop-node : goal.invariant-loop-node
invariant-loop-node l = record {
  drawn : map planned l.drawn.items ≡ map (plan_of l.fn.n (word_of l.fn.words)) (range_with_len 0 l.node);
  moved : l.words ≡ moved_by l.fn.words (3 * l.node);
}
