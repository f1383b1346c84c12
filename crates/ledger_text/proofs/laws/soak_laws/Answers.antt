use Rattle.acs_world.proofs.Exact.{batches_from, batches_all}
use Rattle.acs_world.proofs.Items.{unaltered_from, unaltered_all}
use Rattle.acs_world.proofs.Prefixes.{comparable_from, comparable_all}
use Rattle.ledger_text.proofs.laws.soak_laws.Goals as goal

pub returns-clause-comparable : goal.returns-clause-comparable
returns-clause-comparable c = λ config posts. (comparable_from config posts, comparable_all config posts)

pub returns-clause-batches : goal.returns-clause-batches
returns-clause-batches c = λ config posts. (batches_from config posts, batches_all config posts)

pub returns-clause-unaltered : goal.returns-clause-unaltered
returns-clause-unaltered c = λ config posts. (unaltered_from config posts, unaltered_all config posts)
