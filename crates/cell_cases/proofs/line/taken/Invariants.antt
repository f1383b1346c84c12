use Rattle.std.proofs.Common.{◌+◌, ◌≤◌}
use Rattle.cell_cases.proofs.line.taken.Given as goal

abbrev pub invariant-loop-turn : goal.invariant-loop-turn
invariant-loop-turn l = l.words.word_pos ≤ l.fn.words.word_pos + l._turn
