use Rattle.std.proofs.Common.{◌≡◌, sym, ◌∙◌}
use Rattle.thread_run.proofs.run.run_named.Given as goal

-- the run is that of the book and the script
abbrev pub ghosts-run_over : goal.ghosts-run_over
ghosts-run_over g a = record {
  book = a.book.now;
  is_script = λ s. s ≡ a.script.now;
  one_script = λ s t one two. one ∙ sym two;
}
