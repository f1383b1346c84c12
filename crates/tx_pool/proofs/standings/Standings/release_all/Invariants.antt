use Rattle.std.proofs.Common.{take}
use Rattle.tx_pool.specs.Standings.{Releases}
use Rattle.tx_pool.proofs.standings.Standings.release_all.Given as goal

abbrev pub invariant-loop-tx : goal.invariant-loop-tx
invariant-loop-tx l = Releases l.initial.self l.self (take l.tx-index l.txs)
