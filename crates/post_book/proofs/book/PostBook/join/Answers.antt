use Rattle.std.proofs.Common.{◌≡◌, ◌∙◌, ℕ, sym, ap, subst}
use Rattle.std.specs.Prelude.{Contains}
use Rattle.post_book.specs.Numbering.{seat_number}
use Rattle.post_book.specs.SharedSeats.{SharedView, FirstView}
use Rattle.post_book.proofs.book.PostBook.join.Goals as goal

pub returns-clause-once : goal.returns-clause-once
returns-clause-once g c = λ posts stands.
    let number : seat_number c.args.seat.seat.node c.args.seat.seat.actor ≡ c.seat.inside.seat.number =
    sym (c.seat.invariant.0 ∙ ap (λ (s : SharedView). seat_number s.seat.node s.seat.actor) c.seat.view_is) in
    c.join.ensures.once posts
    (subst (λ (m : ℕ). Contains c.first.inside.seat.ended (m, posts)) number
    (subst (λ (first : FirstView). Contains first.joined (seat_number c.args.seat.seat.node c.args.seat.seat.actor, posts)) (sym c.first.view_is)
    stands))
