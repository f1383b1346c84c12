use Rattle.acs_world.proofs.Searching.{ledger_lists}
use Rattle.ledger_text.proofs.laws.ledger_laws.Goals as goal

pub returns : goal.returns
returns c = ledger_lists
