use Rattle.std.proofs.Common.{◌≡◌, ◌≤◌, ℕ, ◌-◌, List, Some, take, drop, length}
use Rattle.hb_wire.specs.Batches.{transactions_at}
use Rattle.hb_wire.proofs.batches.transactions_of.Given as goal

-- of all the transactions the first are taken, and the others stand from that place on
abbrev pub invariant-transactions : goal.invariant-transactions
invariant-transactions l = record {
  within : l.at ≤ length l.bytes;
  reads : (x : List (List ℕ) × List ℕ) → transactions_at l.count (drop 2 l.bytes) ≡ Some x
      → (transactions_at (l.count - l.counter) (drop l.at l.bytes) ≡ Some (drop l.counter x.0, x.1)) × (l.batch.items ≡ take l.counter x.0);
}
