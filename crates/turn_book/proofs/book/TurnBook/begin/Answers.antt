use Rattle.std.proofs.Common.{◌∷◌, ap, sym, ◌∙◌, Some}
use Rattle.atomic_table.specs.Table.{rest}
use Rattle.turn_book.proofs.Showing.{sits}
use Rattle.turn_book.proofs.book.TurnBook.begin.Goals as goal

pub exchange-requires : goal.exchange-requires
exchange-requires g c =
    let s = sits g.S.History.names c.seat.inside.place.table_id c.seat.inside.place.me c.args.seat.now c.seat.view_is c.seat.invariant in
    let took = c.wait.ensures.takes in (
      c.wait.ensures.table ∙ (s.book_is ∙ (c.requires.book ∙ sym c.self.view_is)),
      (Some took.value, took.holds ∙ (λ i. (0, Some took.value) ∷ sym (ap rest took.holds) i)),
    )
