use Rattle.std.proofs.Common.{◌≡◌, ◌-◌}
use Rattle.hb_wire.specs.Batches.{after_transactions}
use Rattle.hb_wire.proofs.batches.after_transactions_of.Given as goal

-- what is left ends where all transactions end
abbrev pub invariant-transactions : goal.invariant-transactions
invariant-transactions l = after_transactions (l.count - l.counter) l.rest ≡ after_transactions l.count l.fn.bytes
