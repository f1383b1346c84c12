use Rattle.std.proofs.Common.{arith}
use Rattle.hb_rules.specs.Book.{lie_of, Posted}
use Rattle.step_driver.proofs.Tellings.{Tells-one, Tells-refused}
use Rattle.step_driver.proofs.hired.post_lie.Goals as goal

pub returns-in-Ok-clause-told : goal.returns-in-Ok-clause-told
returns-in-Ok-clause-told g c =
    let b = g.B.Book in
    let i = b.node c.args.seat.now in
    let posted : Posted (b.config c.args.seat.now) i (b.actor c.args.seat.now) (lie_of i c.args.lie.now.actor c.args.lie.now.to c.args.lie.now.bytes) c.in-Ok.field-0 (b.seen c.args.seat.now) (b.seen c.lie.new.seat) =
    rw (← c.as_slice.ensures) c.in-Ok.ensures.posted.1 in
    Tells-one b.config b.node b.actor b.seen c.args.lie.now c.args.seat.now c.lie.new.seat c.in-Ok.field-0 c.args.said
    c.requires.liar c.in-Ok.ensures.same posted c.requires.said (omega (arith, c.requires.few))

pub returns-in-Err-clause-told : goal.returns-in-Err-clause-told
returns-in-Err-clause-told g c =
    let b = g.B.Book in
    Tells-refused b.config b.node b.actor b.seen _ c.args.seat.now c.lie.new.seat c.args.said
    c.requires.liar c.in-Err.ensures.same c.in-Err.ensures.refused c.requires.said c.requires.few
