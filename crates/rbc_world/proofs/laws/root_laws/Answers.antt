use Rattle.rbc_world.proofs.Theorems.{ready_quorum, roots_bound, said_roots_bound, is_backed}
use Rattle.rbc_world.proofs.laws.root_laws.Goals as goal

pub returns-clause-codeword : goal.returns-clause-codeword
returns-clause-codeword c = roots_bound

pub returns-clause-said : goal.returns-clause-said
returns-clause-said c = said_roots_bound

pub returns-clause-ready : goal.returns-clause-ready
returns-clause-ready c = ready_quorum

pub returns-clause-delivery : goal.returns-clause-delivery
returns-clause-delivery c = is_backed
