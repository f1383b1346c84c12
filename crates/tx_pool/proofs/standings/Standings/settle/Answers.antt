use Rattle.tx_pool.proofs.Tables.{settles_reserved, stays_released}
use Rattle.tx_pool.proofs.standings.Standings.settle.Goals as goal

pub returns-in-Ok-clause-ok : goal.returns-in-Ok-clause-ok
returns-in-Ok-clause-ok c = settles_reserved c.args.self.now c.reserve_all.new.self c.set_settled.new.self c.args.txs.now c.in-Ok.ensures.reserves
    c.set_settled.ensures

pub returns-in-Err-clause-err : goal.returns-in-Err-clause-err
returns-in-Err-clause-err c = stays_released c.args.self.now c.reserve_all.new.self c.release_all.new.self c.args.txs.now c.requires
    c.in-Err.ensures.reserves c.release_all.ensures
