use Rattle.std.proofs.Common.{◌≡◌, ◌∙◌, [], sym, ap, subst}
use Rattle.hb_wire.specs.declared.post.Post.{Post}
use Rattle.turn_book.specs.Entries.{entries_of}
use Rattle.turn_book.specs.SeatState.{SeatState}
use Rattle.hb_rules.specs.Book.{mine_in}
use Rattle.post_book.specs.Numbering.{IsPlace, post_number, seat_number}
use Rattle.post_book.specs.SharedSeats.{FirstView}
use Rattle.post_book.proofs.Numbers.{entries_are_mine}
use Rattle.post_book.proofs.book.PostBook.seat_for.Goals as goal

pub returns-clause-none : goal.returns-clause-none
returns-clause-none g c =
    let place : IsPlace g.J.Naming.config c.args.node c.args.actor = record { small = c.ranges.actor.fits; liar = c.requires.liar } in
    let made = c.split-seat.ensures.new in
    let seen : c.split-seat.result.seen ≡ c.first.inside.seat.seen = ap (λ (s : SeatState Post). s.seen) made in
    let number : c.split-seat.result.number ≡ seat_number c.args.node c.args.actor =
    ap (λ (s : SeatState Post). s.number) made ∙ c.number_of.ensures in
    let none : c.split-seat.result.mine ≡ [] = ap (λ (s : SeatState Post). s.mine) made in
    let own : entries_of (post_number g.J.Naming.config) (seat_number c.args.node c.args.actor) c.first.inside.seat.seen ≡ [] =
    rw (number, seen) at (sym c.entries_are_own.ensures ∙ none) in
    subst (λ (first : FirstView). mine_in g.J.Naming.config c.args.node c.args.actor first.seen ≡ []) c.first.view_is
    (sym (entries_are_mine g.J.Naming.config c.args.node c.args.actor place c.first.inside.seat.seen) ∙ own)
