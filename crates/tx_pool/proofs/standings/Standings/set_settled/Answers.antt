use Rattle.std.proofs.Common.{◌≡◌, take, get_or}
use Rattle.tx_pool.proofs.Tables.{settles_more, room_now, among_item}
use Rattle.tx_pool.proofs.standings.Standings.set_settled.Goals as goal

pub set-requires : goal.set-requires
set-requires c =
    let item : c.as_slice.result.now ≡ get_or c.args.txs.now c.loop-tx.tx-index c.as_slice.result.now = rw c.as_slice.ensures c.tx-item.is in
    room_now c.args.self.now c.loop-tx.self c.args.txs.now (take c.loop-tx.tx-index c.args.txs.now) c.as_slice.result.now c.requires.room c.loop-tx.invariant
    (among_item c.args.txs.now c.loop-tx.tx-index c.as_slice.result.now c.loop-tx-test.true item)

pub loop-tx-preserved : goal.loop-tx-preserved
loop-tx-preserved c =
    let item : c.as_slice.result.now ≡ get_or c.args.txs.now c.loop-tx.tx-index c.as_slice.result.now = rw c.as_slice.ensures c.tx-item.is in
    settles_more c.args.self.now c.loop-tx.self c.set.new.self c.args.txs.now c.loop-tx.tx-index c.as_slice.result.now c.loop-tx-test.true item
    c.loop-tx.invariant c.set.ensures
