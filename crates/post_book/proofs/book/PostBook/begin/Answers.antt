use Rattle.std.proofs.Common.{◌∙◌}
use Rattle.post_book.proofs.Turns.{watched}
use Rattle.post_book.proofs.book.PostBook.begin.Goals as goal

pub returns-clause-watched : goal.returns-clause-watched
returns-clause-watched g c =
    watched g.J.Naming.config c.args.node c.args.actor c.requires.place.1 c.args.seat.now.seen c.begin.result c.begin.ensures.begins
    (rw c.requires.place.0 at (c.begin.ensures.mine ∙ c.entries_are_own.ensures))
