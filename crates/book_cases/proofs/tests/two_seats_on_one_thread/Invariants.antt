use Rattle.book_cases.proofs.tests.two_seats_on_one_thread.Given as goal

-- the book is of the run's config
abbrev pub ghosts-post_row : goal.ghosts-post_row
ghosts-post_row g a = record { config = a.config.now }
