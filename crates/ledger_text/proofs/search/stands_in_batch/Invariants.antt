use Rattle.std.proofs.Common.{◌≡◌, false, take}
use Rattle.tx_pool.specs.Pool.{is_among}
use Rattle.hb_wire.specs.Batches.{batch_of}
use Rattle.ledger_text.proofs.search.stands_in_batch.Given as goal

abbrev pub invariant-loop-t : goal.invariant-loop-t
invariant-loop-t l = is_among (take l.t (batch_of l.value)) l.tx ≡ false
