use Rattle.std.proofs.Common.{take}
use Rattle.tx_pool.specs.Calls.{IsPoolOf}
use Rattle.desk_core.proofs.Pooling.{submissions}
use Rattle.desk_core.proofs.desk.pool_of.Given as goal

abbrev pub invariant-loop-tx : goal.invariant-loop-tx
invariant-loop-tx l = IsPoolOf (submissions (take l.tx-index l.submitted)) l.pool
