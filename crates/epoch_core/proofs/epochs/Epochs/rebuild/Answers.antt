use Rattle.std.proofs.Common.{arith}
use Rattle.epoch_core.proofs.Desk.{Stands-remade}
use Rattle.epoch_core.proofs.epochs.Epochs.rebuild.Goals as goal

pub returns-clause-stands : goal.returns-clause-stands
returns-clause-stands c =
    Stands-remade c.args.config.now c.args.node c.closed_by-closed.result c.epochs-epochs.result c.batch.result c.args.pool.pooled _ _ _ c.args.own.now
    (omega (arith, c.n-n.ensures.value, c.f-f.ensures.value, c.f-f.ensures.bounds.1)) c.epochs-epochs.ensures.value c.batch.ensures.value
    (record { most = c.closed_by-closed.ensures.most; below = c.closed_by-closed.ensures.below; next = c.closed_by-closed.ensures.next })
    c.in_ok-tables.ensures c.in_ok-settle_all.ensures c.in_ok-first.ensures
