use Rattle.std.proofs.Common.{ap}
use Rattle.hb_rules.specs.Book.{SeatView, post_of}
use Rattle.hb_rules.proofs.Seats.{IsAllowed-seat, Posted-seen}
use Rattle.hb_rules.proofs.plain_book.PlainBookBook.post.Goals as goal

pub spell_for-bytes-requires-clause-allowed : goal.spell_for-bytes-requires-clause-allowed
spell_for-bytes-requires-clause-allowed c =
    rw (c.node-node.ensures, c.actor-actor.ensures, c.self.view_is)
    (IsAllowed-seat c.args.self.now c.args.seat.now c.args.vote.now c.requires.seat c.requires.allowed)

pub add_vote-posted-requires-clause-allowed : goal.add_vote-posted-requires-clause-allowed
add_vote-posted-requires-clause-allowed c =
    rw (c.node-node.ensures, c.actor-actor.ensures, c.self.view_is)
    (IsAllowed-seat c.args.self.now c.args.seat.now c.args.vote.now c.requires.seat c.requires.allowed)

pub returns-clause-posted : goal.returns-clause-posted
returns-clause-posted c =
    let seat : SeatView = c.args.seat.now in
    Posted-seen c.add_vote-posted.result c.args.self.now c.add_vote-posted.new.self seat c.look.new.self
    (post_of seat.node seat.actor c.args.vote.now) c.requires.seat (ap (λ (s : SeatView). s.seen) c.look.ensures.seen)
    (rw c.self.view_is at c.add_vote-posted.ensures.number)
    (rw (c.self.view_is, c.node-node.ensures, c.actor-actor.ensures) at c.add_vote-posted.ensures.added)
