use Rattle.acs_world.proofs.Theorems.{closings_backed, closings_follow, closings_agree, ledgers_comparable, batches_enough, items_unaltered}
use Rattle.acs_world.proofs.laws.ledger_laws.Goals as goal

pub returns-clause-backed : goal.returns-clause-backed
returns-clause-backed c = closings_backed

pub returns-clause-follow : goal.returns-clause-follow
returns-clause-follow c = closings_follow

pub returns-clause-agreement : goal.returns-clause-agreement
returns-clause-agreement c = closings_agree

pub returns-clause-comparable : goal.returns-clause-comparable
returns-clause-comparable c = ledgers_comparable

pub returns-clause-batches : goal.returns-clause-batches
returns-clause-batches c = batches_enough

pub returns-clause-unaltered : goal.returns-clause-unaltered
returns-clause-unaltered c = items_unaltered
