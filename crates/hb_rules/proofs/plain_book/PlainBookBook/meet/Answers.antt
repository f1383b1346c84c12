use Rattle.hb_rules.proofs.Seats.{IsSeatOf-more, on_way}
use Rattle.hb_rules.proofs.plain_book.PlainBookBook.meet.Goals as goal

pub returns-clause-seat : goal.returns-clause-seat
returns-clause-seat c =
    IsSeatOf-more c.args.self.now c.args.seat.now c.meet.new.self c.requires.seat c.meet.ensures.same c.meet.ensures.mine
    (rw c.self.view_is at c.meet.ensures.stands)

pub returns-clause-watched : goal.returns-clause-watched
returns-clause-watched c =
    (on_way c.args.seat.now.config c.args.seat.now.node c.args.seat.now.actor c.args.seat.now.seen c.meet.new.self.seen c.args.self.now.posts
    c.requires.seat.watched c.meet.ensures.mine (rw c.self.view_is at c.meet.ensures.stands)).so_far
