use Rattle.std.proofs.Common.{take}
use Rattle.tx_pool.specs.Standings.{Settles}
use Rattle.tx_pool.proofs.standings.Standings.set_settled.Given as goal

abbrev pub invariant-loop-tx : goal.invariant-loop-tx
invariant-loop-tx l = Settles l.initial.self l.self (take l.tx-index l.txs)
