use Rattle.std.proofs.Common.{◌≡◌, sym, ◌∙◌}
use Rattle.cell_cases.proofs.turning.hear_a_lie.Given as goal

-- the run is that of the book and the script
abbrev pub ghosts-turn_twice : goal.ghosts-turn_twice
ghosts-turn_twice g a = record {
  book = a.book.now;
  is_script = λ s. s ≡ a.script.now;
  one_script = λ s t one two. one ∙ sym two;
}
