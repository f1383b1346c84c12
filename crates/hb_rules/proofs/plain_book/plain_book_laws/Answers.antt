use Rattle.hb_rules.proofs.PlainBooks.{plain_still, plain_added}
use Rattle.hb_rules.proofs.plain_book.plain_book_laws.Goals as goal

pub returns-clause-still : goal.returns-clause-still
returns-clause-still c = plain_still

pub returns-clause-added : goal.returns-clause-added
returns-clause-added c = plain_added
