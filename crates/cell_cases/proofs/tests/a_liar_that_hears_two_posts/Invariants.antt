use Rattle.cell_cases.proofs.tests.a_liar_that_hears_two_posts.Given as goal

-- the run is that of the script
abbrev pub ghosts-liar_turns : goal.ghosts-liar_turns
ghosts-liar_turns g a = record { config = a.script.now.config }
