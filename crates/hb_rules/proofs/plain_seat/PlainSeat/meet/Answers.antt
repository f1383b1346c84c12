use Rattle.std.proofs.Common.{◌≤◌, ap, sym, arith}
use Rattle.hb_rules.specs.Book.{SeatView}
use Rattle.hb_rules.proofs.Seats.{begins_more}
use Rattle.hb_rules.proofs.plain_seat.PlainSeat.meet.Goals as goal

pub returns-clause-mine : goal.returns-clause-mine
returns-clause-mine c =
    let more : c.self.inside.count ≤ c.max-self-inside.result = omega (arith, c.max-self-inside.ensures) in
    rw c.of.ensures
    (begins_more c.args.self.now.seen c.args.posts.now.posts c.self.inside.posts.value.posts c.self.inside.count c.max-self-inside.result
    (ap (λ (s : SeatView). s.seen) (sym c.self.view_is)) c.self.invariant c.requires.seen more)

pub returns-clause-both : goal.returns-clause-both
returns-clause-both c =
    let more : c.other.inside.count ≤ c.max-self-inside.result = omega (arith, c.max-self-inside.ensures) in
    rw c.of.ensures
    (begins_more c.args.other.now.seen c.args.posts.now.posts c.other.inside.posts.value.posts c.other.inside.count c.max-self-inside.result
    (ap (λ (s : SeatView). s.seen) (sym c.other.view_is)) c.other.invariant c.requires.other more)
