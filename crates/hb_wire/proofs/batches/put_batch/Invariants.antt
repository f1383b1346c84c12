use Rattle.std.proofs.Common.{◌≡◌, ◌++◌, length, take}
use Rattle.std.specs.List.{flat_map}
use Rattle.std.specs.Int.{w16, to_be_bytes}
use Rattle.hb_wire.specs.Batches.{transaction_bytes}
use Rattle.hb_wire.proofs.batches.put_batch.Given as goal

abbrev pub invariant-loop-transaction : goal.invariant-loop-transaction
invariant-loop-transaction l =
    l.out.items ≡ l.fn.out.items ++ (to_be_bytes w16 (length l.batch) ++ flat_map transaction_bytes (take l.transaction-index l.batch))
