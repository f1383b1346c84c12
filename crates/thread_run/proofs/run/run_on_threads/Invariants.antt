use Rattle.thread_run.proofs.run.run_on_threads.Given as goal

-- the book is of the script's config
abbrev pub ghosts-run_named : goal.ghosts-run_named
ghosts-run_named g a = record { config = a.script.config }
