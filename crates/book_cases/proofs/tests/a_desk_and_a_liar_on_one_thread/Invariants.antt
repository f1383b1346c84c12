use Rattle.book_cases.proofs.tests.a_desk_and_a_liar_on_one_thread.Given as goal

-- the book is of the run's config
abbrev pub ghosts-post_alone : goal.ghosts-post_alone
ghosts-post_alone g a = record { config = a.config.now }
