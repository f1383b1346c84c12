use Rattle.std.proofs.Common.{◌≤◌, List, length, ap, sym, subst}
use Rattle.hb_wire.specs.declared.post.Post.{Post}
use Rattle.hb_rules.specs.Book.{Watched}
use Rattle.turn_book.specs.SeatState.{SeatState}
use Rattle.post_book.specs.SharedSeats.{SharedView}
use Rattle.post_book.proofs.shared_book.SharedBookBook.read.Goals as goal

pub returns-clause-watched : goal.returns-clause-watched
returns-clause-watched g c =
    subst (λ (s : SharedView). Watched s.seat.config s.seat.node s.seat.actor s.seat.seen c.pass.new.seat.seen) c.seat.view_is
    (subst (Watched g.J.Naming.config c.seat.inside.node c.seat.inside.actor c.seat.inside.seat.seen)
    (sym (ap (λ (s : SeatState Post). s.seen) c.pass.ensures.turn)) c.begin-posts.ensures.watched)

pub returns-clause-none : goal.returns-clause-none
returns-clause-none g c = λ few.
    c.read-found.ensures.none (subst (λ (seen : List Post). length seen ≤ c.args.k) (ap (λ (s : SeatState Post). s.seen) c.pass.ensures.turn) few)
