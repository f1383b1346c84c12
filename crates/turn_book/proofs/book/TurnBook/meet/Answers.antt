use Rattle.std.proofs.Common.{arith, ap, sym, ◌∙◌}
use Rattle.turn_book.proofs.Seating.{splits_bare, meets}
use Rattle.turn_book.proofs.book.TurnBook.meet.Goals as goal

pub split_seat-place-requires : goal.split_seat-place-requires
split_seat-place-requires g c = (
  ap (λ s. s.book) c.other.view_is ∙ (c.requires.book.1 ∙ sym c.self.view_is),
  omega (arith, c.self.invariant.0),
  splits_bare g.S.History.entries g.S.History.names _ c.other.inside.place.me.0,
)

pub join_seat-requires : goal.join_seat-requires
join_seat-requires g c =
    let made = c.split_seat-place.ensures in (
      ap (λ s. s.book) c.seat.view_is ∙ (c.requires.book.0 ∙ sym c.self.view_is),
      made.3 ∙ (ap (λ s. s.book) c.other.view_is ∙ (c.requires.book.1 ∙ sym c.self.view_is)),
      ap (λ m. m.1) made.4,
      omega (arith, c.self.invariant.0),
      meets g.S.History.entries g.S.History.names _ c.seat.inside.place.me.0 _ c.split_seat-place.result.me.0 (ap (λ m. m.0.in_turn) made.4),
    )
