use Rattle.std.proofs.Common.{◌≡◌, ◌∙◌, sym, ap, subst}
use Rattle.hb_wire.specs.declared.post.Post.{Post}
use Rattle.hb_rules.specs.Book.{Watched}
use Rattle.turn_book.specs.Entries.{entries_of}
use Rattle.turn_book.specs.SeatState.{SeatState}
use Rattle.post_book.specs.Numbering.{post_number, seat_number}
use Rattle.post_book.specs.SharedSeats.{SharedView}
use Rattle.post_book.proofs.Turns.{watched}
use Rattle.post_book.proofs.shared_book.SharedBookBook.meet.Goals as goal

pub returns-clause-watched : goal.returns-clause-watched
returns-clause-watched g c =
    let old = c.seat.inside.seat in
    let new = c.meet.new.seat in
    let node = c.seat.inside.node in
    let actor = c.seat.inside.actor in
    let named : new.number ≡ seat_number node actor = ap (λ (s : SeatState Post). s.number) c.meet.ensures.same.0 ∙ c.seat.invariant.0 in
    let mine : new.mine ≡ old.mine = ap (λ (s : SeatState Post). s.mine) c.meet.ensures.same.0 in
    let now : new.mine ≡ entries_of (post_number g.J.Naming.config) (seat_number node actor) new.seen = rw named at c.entries_are_own-2.ensures in
    let before : old.mine ≡ entries_of (post_number g.J.Naming.config) (seat_number node actor) old.seen =
    rw c.seat.invariant.0 at c.entries_are_own.ensures in
    subst (λ (s : SharedView). Watched s.seat.config s.seat.node s.seat.actor s.seat.seen new.seen) c.seat.view_is
    (watched g.J.Naming.config node actor c.seat.invariant.3 old.seen new.seen c.meet.ensures.both.0 (sym now ∙ mine ∙ before))
