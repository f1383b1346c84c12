use Rattle.book_cases.proofs.tests.four_threads_and_a_liar.Given as goal

-- the book is of the run's config
abbrev pub ghosts-post_beside : goal.ghosts-post_beside
ghosts-post_beside g a = record { config = a.config.now }
