use Rattle.std.proofs.Common.{◌≡◌, get_or}
use Rattle.tx_pool.proofs.Tables.{releases_more}
use Rattle.tx_pool.proofs.standings.Standings.release_all.Goals as goal

pub loop-tx-preserved : goal.loop-tx-preserved
loop-tx-preserved c =
    let item : c.as_slice.result.now ≡ get_or c.args.txs.now c.loop-tx.tx-index c.as_slice.result.now = rw c.as_slice.ensures c.tx-item.is in
    releases_more c.args.self.now c.loop-tx.self c.release.new.self c.args.txs.now c.loop-tx.tx-index c.as_slice.result.now c.loop-tx-test.true item
    c.loop-tx.invariant c.release.ensures
