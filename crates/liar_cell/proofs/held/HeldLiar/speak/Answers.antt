use Rattle.std.proofs.Common.{◌≤◌, length, ap, arith, ◌∙◌}
use Rattle.actor_cell.specs.Mail.{sent_of}
use Rattle.liar_cell.proofs.Speaking.{longer, GoesOn-then, TakesNothing-of, TakesNothing-then, PutsOwn-from}
use Rattle.liar_cell.proofs.held.HeldLiar.speak.Goals as goal

pub send-requires : goal.send-requires
send-requires g c =
    omega (arith, c.count-first.ensures.count, longer c.count-first.new.self.seat.seen c.post.new.self.seat.seen c.post.ensures.goes.seen)

pub returns-clause-goes : goal.returns-clause-goes
returns-clause-goes g c =
    let b = g.B.Book in
    let on = g.met.B.Book.goes_on in
    let o = c.args.self.now in
    let m = c.count-first.new.self in
    let n = c.post.new.self in
    let q = c.send.new.self in
    GoesOn-then b.moved on o m q c.count-first.ensures.goes (GoesOn-then b.moved on m n q c.post.ensures.goes c.send.ensures.goes)

pub returns-clause-hears : goal.returns-clause-hears
returns-clause-hears g c = c.send.ensures.quiet.hears ∙ c.post.ensures.rest.0 ∙ c.count-first.ensures.quiet.hears

pub returns-clause-nothing : goal.returns-clause-nothing
returns-clause-nothing g c =
    let o = c.args.self.now in
    let m = c.count-first.new.self in
    let n = c.post.new.self in
    let q = c.send.new.self in
    let rest = c.post.ensures.rest in
    TakesNothing-then o m q (TakesNothing-of o m c.count-first.ensures.rest) (TakesNothing-then m n q (TakesNothing-of m n (rest.1, rest.2)) c.send.ensures.nothing)

pub returns-clause-told : goal.returns-clause-told
returns-clause-told g c =
    let o = c.args.self.now in
    let m = c.count-first.new.self in
    let n = c.post.new.self in
    let q = c.send.new.self in
    let same = c.post.ensures.rest.1 ∙ c.count-first.ensures.rest.0 in
    let less : length o.seat.seen ≤ c.count-first.result = omega (arith, c.count-first.ensures.count, longer o.seat.seen m.seat.seen c.count-first.ensures.goes.seen) in
    PutsOwn-from c.count-first.result (length o.seat.seen) (length q.seat.seen) o n q less (ap (λ mail. sent_of mail) same) c.send.ensures.told
