use Rattle.rbc_world.proofs.Theorems.{readies_agree, deliveries_agree, deliveries_proposed, proposals_agree}
use Rattle.rbc_world.proofs.laws.broadcast_laws.Goals as goal

pub returns-clause-readies : goal.returns-clause-readies
returns-clause-readies c = readies_agree

pub returns-clause-agreement : goal.returns-clause-agreement
returns-clause-agreement c = deliveries_agree

pub returns-clause-validity : goal.returns-clause-validity
returns-clause-validity c = deliveries_proposed

pub returns-clause-proposals : goal.returns-clause-proposals
returns-clause-proposals c = proposals_agree
