use Rattle.acs_world.proofs.Reading.{IsRead, closing_read}
use Rattle.acs_world.proofs.closings.closing_in.Goals as goal

pub returns-clause-some : goal.returns-clause-some
returns-clause-some c =
    let seen = rw (c.n.ensures.value, c.version.ensures.value) at c.in_ok-glance.ensures.seen in
    let is : IsRead c.args.config.now c.args.bytes.now c.in_ok-glance.glance.epoch c.in_ok-glance.glance.rest.now =
    closing_read c.args.config.now c.args.bytes.now c.in_ok-glance.glance.kind c.in_ok-glance.glance.epoch c.in_ok-glance.glance.rest.now
    seen c.if-glance-ne-CLOSED.false in
    (is.closure, is.closes, is.shown)
