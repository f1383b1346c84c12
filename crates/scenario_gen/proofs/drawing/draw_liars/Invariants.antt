use Rattle.std.proofs.Common.{◌≡◌, map}
use Rattle.std.specs.List.{range_with_len}
use Rattle.seed_words.specs.Words.{moved_by, word_of}
use Rattle.scenario_gen.specs.Generated.{liar}
use Rattle.scenario_gen.proofs.drawing.draw_liars.Given as goal

-- the liars drawn so far
abbrev pub invariant-loop-j : goal.invariant-loop-j
invariant-loop-j l = record {
  drawn : l.drawn.items ≡ map (liar l.fn.n (word_of l.fn.words)) (range_with_len 0 l.j);
  moved : l.words ≡ moved_by l.fn.words l.j;
}
