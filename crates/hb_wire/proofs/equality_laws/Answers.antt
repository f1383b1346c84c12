use Rattle.hb_wire.proofs.Equality.{one_vote, lists}
use Rattle.hb_wire.proofs.equality_laws.Goals as goal

pub returns-clause-votes : goal.returns-clause-votes
returns-clause-votes c = one_vote

pub returns-clause-lists : goal.returns-clause-lists
returns-clause-lists c = lists
