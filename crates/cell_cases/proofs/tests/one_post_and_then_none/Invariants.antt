use Rattle.cell_cases.proofs.tests.one_post_and_then_none.Given as goal

-- the run is that of the script
abbrev pub ghosts-turns : goal.ghosts-turns
ghosts-turns g a = record { config = a.script.now.config }
