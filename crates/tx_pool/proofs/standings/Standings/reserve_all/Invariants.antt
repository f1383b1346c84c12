use Rattle.std.proofs.Common.{take}
use Rattle.tx_pool.specs.Standings.{Reserves, HaveRoom}
use Rattle.tx_pool.proofs.standings.Standings.reserve_all.Given as goal

abbrev pub invariant-loop-tx : goal.invariant-loop-tx
invariant-loop-tx l = record {
  reserves : Reserves l.initial.self l.self (take l.tx-index l.txs);
  room : HaveRoom l.self (take l.tx-index l.txs);
}
