use Rattle.std.proofs.Common.{◌∷◌, ◌++◌, arith, ap, sym, subst, ◌∙◌, Some, unwrap_or}
use Rattle.atomic_table.specs.Table.{rest}
use Rattle.turn_book.specs.Entries.{entries_of, AddsAtMostOne}
use Rattle.turn_book.specs.Told.{held}
use Rattle.turn_book.proofs.Turning.{passes}
use Rattle.turn_book.proofs.Showing.{sits, mine_more}
use Rattle.turn_book.proofs.book.TurnBook.pass.Goals as goal

pub swap-requires : goal.swap-requires
swap-requires g c =
    let names = g.S.History.names in
    let s = sits names c.seat.inside.place.table_id c.seat.inside.place.me c.args.seat.now c.seat.view_is c.seat.invariant in
    let now = c.exchange.ensures.3 in
    let turn = s.in_turn ∙ c.requires.turn in
    let seen = ap (λ m. m.0.seen) now ∙ s.seen in (
      c.exchange.ensures.0 ∙ (s.book_is ∙ (c.requires.book ∙ sym c.self.view_is)),
      omega (arith, c.self.invariant.0),
      passes g.S.History.entries names c.args.seat.now.number _ _ c.exchange.new.seat.me c.args.value
          (ap (λ m. m.0.number) now ∙ s.number)
          (ap (λ m. m.0.in_turn) now ∙ turn)
          (ap (λ m. m.1) now ∙ ap (λ cs. (0, Some c.args.value) ∷ rest cs) (c.seat.invariant.inside turn))
          (subst (λ l. AddsAtMostOne names c.args.seat.now.number l (g.S.History.entries c.args.value)) (sym seen) c.requires.value),
    )

pub returns-clause-mine : goal.returns-clause-mine
returns-clause-mine g c = λ added is.
    let names = g.S.History.names in
    let s = sits names c.seat.inside.place.table_id c.seat.inside.place.me c.args.seat.now c.seat.view_is c.seat.invariant in
    let now = c.exchange.ensures.3 in
    let after = c.swap.ensures.2 in
    let number = ap (λ m. m.0.number) after ∙ (ap (λ m. m.0.number) now ∙ s.number) in
    let seen = ap (λ m. m.0.seen) after ∙ ap (λ m. held g.S.History.entries m.1) now in
    (λ i. entries_of names (unwrap_or (number i) 0) (seen i))
    ∙ (mine_more names c.args.seat.now.number c.args.seat.now.seen (g.S.History.entries c.args.value) added c.requires.value is
    ∙ ap (λ w. w ++ added) (sym s.mine))
