use Rattle.std.proofs.Common.{◌≡◌, drop}
use Rattle.std.specs.List.{fold}
use Rattle.tx_pool.specs.Marks.{stir}
use Rattle.tx_pool.proofs.marks.stir_all.Given as goal

abbrev pub invariant-loop-byte : goal.invariant-loop-byte
invariant-loop-byte l = fold stir l.mark (drop l.byte-index l.bytes) ≡ fold stir l.fn.mark l.bytes
