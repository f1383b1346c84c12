use Rattle.tx_pool.proofs.Tables.{reserves_more, reserves_all, have_room_more}
use Rattle.tx_pool.proofs.standings.Standings.reserve_all.Goals as goal

pub returns-in_err-reserve-clause-reserves : goal.returns-in_err-reserve-clause-reserves
returns-in_err-reserve-clause-reserves c =
    rw c.in_err-reserve.ensures.err (reserves_all c.args.self.now c.loop-tx.self c.args.txs.now c.loop-tx.tx-index c.loop-tx.invariant.reserves)

pub loop-tx-preserved : goal.loop-tx-preserved
loop-tx-preserved c =
    record {
      reserves = reserves_more c.args.self.now c.loop-tx.self c.reserve.new.self c.args.txs.now c.loop-tx.tx-index c.tx-item.result
          c.loop-tx-test.true c.tx-item.is c.loop-tx.invariant.reserves c.in_ok-reserve.ensures.ok;
      room = have_room_more c.loop-tx.self c.reserve.new.self c.args.txs.now c.loop-tx.tx-index c.tx-item.result c.loop-tx-test.true c.tx-item.is
          c.loop-tx.invariant.room c.in_ok-reserve.ensures.ok;
    }
