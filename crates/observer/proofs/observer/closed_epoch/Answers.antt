use Rattle.std.proofs.Common.{arith}
use Rattle.acs_world.proofs.Reading.{IsRead, closing_read}
use Rattle.observer.proofs.Claimed.{run_read}
use Rattle.observer.proofs.observer.closed_epoch.Goals as goal

pub returns-clause-some : goal.returns-clause-some
returns-clause-some c =
    let config = c.args.config.now in
    let seen = rw (c.n.ensures.value, c.version.ensures.value) at c.in_ok-glance.ensures.seen in
    let read : IsRead config c.args.bytes.now c.in_ok-glance.glance.epoch c.in_ok-glance.glance.rest.now =
    closing_read config c.args.bytes.now c.in_ok-glance.glance.kind c.in_ok-glance.glance.epoch c.in_ok-glance.glance.rest.now seen
    c.if-glance-ne-CLOSED.false in (
      read.closure.1,
      run_read config c.args.bytes.now c.in_ok-glance.glance.epoch c.in_ok-glance.glance.rest.now read
          (omega (arith, c.if-glance-epochs.false, c.epochs.ensures.value)),
    )
