use Rattle.std.proofs.Common.{ℕ, Vec, Global}
use Rattle.ledger_text.proofs.Chains.{starts_none}
use Rattle.ledger_text.proofs.seen.no_starts.Goals as goal

pub returns-clause-none : goal.returns-clause-none
returns-clause-none c = starts_none (λ (starts : Vec ℕ Global). starts.items) c.vec.result _ (λ y same. same) c.vec.ensures.items_if_clones_equal
