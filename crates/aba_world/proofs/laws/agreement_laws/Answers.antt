use Rattle.aba_world.proofs.Theorems.{decisions_agree, decisions_begun, beginnings_backed, decisions_settled}
use Rattle.aba_world.proofs.laws.agreement_laws.Goals as goal

pub returns-clause-agreement : goal.returns-clause-agreement
returns-clause-agreement c = decisions_agree

pub returns-clause-validity : goal.returns-clause-validity
returns-clause-validity c = decisions_begun

pub returns-clause-beginnings : goal.returns-clause-beginnings
returns-clause-beginnings c = beginnings_backed

pub returns-clause-settled : goal.returns-clause-settled
returns-clause-settled c = decisions_settled
