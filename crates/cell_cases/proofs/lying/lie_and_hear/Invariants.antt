use Rattle.std.proofs.Common.{◌≡◌, sym, ◌∙◌}
use Rattle.cell_cases.proofs.lying.lie_and_hear.Given as goal

-- the run is that of the book and the script
abbrev pub ghosts-turn_often : goal.ghosts-turn_often
ghosts-turn_often g a = record {
  book = a.book.now;
  is_script = λ s. s ≡ a.script.now;
  one_script = λ s t one two. one ∙ sym two;
}
