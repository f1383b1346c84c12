use Rattle.std.proofs.Common.{[], ◌∷◌}
use Rattle.post_book.specs.Numbering.{seat_number}
use Rattle.post_book.specs.SharedSeats.{SharedView}
use Rattle.book_cases.proofs.Seatings.{AreOut-given}
use Rattle.book_cases.proofs.crowd.closed.Goals as goal

pub close_all-history-requires-clause-none : goal.close_all-history-requires-clause-none
close_all-history-requires-clause-none g c =
    let number = λ (s : SharedView). seat_number s.seat.node s.seat.actor in
    let b = number c.args.sent.b.seat in
    let d3 = number c.args.sent.c.seat in
    let d4 = number c.args.sent.d.seat in
    let last = number c.args.lied.seat in
    c.take_in-5.ensures.out []
    (c.take_in-4.ensures.out (last ∷ [])
    (c.take_in-3.ensures.out (d4 ∷ last ∷ [])
    (c.take_in-2.ensures.out (d3 ∷ d4 ∷ last ∷ [])
    (c.take_in.ensures.out (b ∷ d3 ∷ d4 ∷ last ∷ []) (AreOut-given c.args.first _ c.requires.given)))))
