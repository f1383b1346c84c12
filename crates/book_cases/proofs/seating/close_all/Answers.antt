use Rattle.book_cases.proofs.Seatings.{all_joined}
use Rattle.book_cases.proofs.seating.close_all.Goals as goal

pub close-requires-clause-all : goal.close-requires-clause-all
close-requires-clause-all g c = all_joined c.args.first c.requires.none
