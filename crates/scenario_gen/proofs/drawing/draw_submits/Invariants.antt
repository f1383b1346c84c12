use Rattle.std.proofs.Common.{◌≡◌, ◌*◌, map}
use Rattle.std.specs.List.{range_with_len}
use Rattle.seed_words.specs.Words.{moved_by, word_of}
use Rattle.scenario_gen.specs.Generated.{submit}
use Rattle.scenario_gen.proofs.drawing.draw_submits.Given as goal

-- the transactions drawn so far
abbrev pub invariant-loop-t : goal.invariant-loop-t
invariant-loop-t l = record {
  drawn : l.drawn.items ≡ map (submit (word_of l.fn.words)) (range_with_len 0 l.t);
  moved : l.words ≡ moved_by l.fn.words (2 * l.t);
}
