use Rattle.rbc_progress.proofs.Theorems.{delivers_to_all, senders_are_delivered}
use Rattle.rbc_progress.proofs.laws.delivery_laws.Goals as goal

pub returns-clause-totality : goal.returns-clause-totality
returns-clause-totality c = delivers_to_all

pub returns-clause-sender : goal.returns-clause-sender
returns-clause-sender c = senders_are_delivered
