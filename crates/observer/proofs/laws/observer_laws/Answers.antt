use Rattle.observer.proofs.Taken.{heard_ledger}
use Rattle.observer.proofs.Theorems.{agrees_with_nodes, observers_alike, observed_complete}
use Rattle.observer.proofs.laws.observer_laws.Goals as goal

pub returns-clause-nodes : goal.returns-clause-nodes
returns-clause-nodes c = agrees_with_nodes

pub returns-clause-observers : goal.returns-clause-observers
returns-clause-observers c = observers_alike

pub returns-clause-complete : goal.returns-clause-complete
returns-clause-complete c = observed_complete

pub returns-clause-ledger : goal.returns-clause-ledger
returns-clause-ledger c = heard_ledger
