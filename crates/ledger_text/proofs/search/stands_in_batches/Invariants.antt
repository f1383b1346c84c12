use Rattle.std.proofs.Common.{◌≡◌, false}
use Rattle.tx_pool.specs.Pool.{is_among}
use Rattle.ledger_text.specs.Places.{in_batches}
use Rattle.ledger_text.proofs.search.stands_in_batches.Given as goal

abbrev pub invariant-loop-j : goal.invariant-loop-j
invariant-loop-j l = is_among (in_batches l.rest l.j) l.tx ≡ false
