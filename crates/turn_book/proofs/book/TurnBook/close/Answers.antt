use Rattle.std.proofs.Common.{◌≡◌, subst}
use Rattle.turn_book.proofs.Showing.{sits, Gives, gives}
use Rattle.turn_book.proofs.book.TurnBook.close.Goals as goal

pub unreachable-requires : goal.unreachable-requires
unreachable-requires g c =
    let s = sits g.S.History.names c.seat.inside.place.table_id c.seat.inside.place.me c.args.seat c.seat.view_is c.seat.invariant in
    let whole = gives g.S.History.entries g.S.History.names _ c.seat.inside.place.table_id c.seat.inside.place.me c.args.seat _ _
    c.take-value.result s c.requires.first.0 c.requires.first.1 c.requires.ended
    c.close_with-closed.ensures.values.2 c.take-value.ensures.value in
    cc (whole.1, c.in-None.is)

pub returns : goal.returns
returns g c =
    let names = g.S.History.names in
    let s = sits names c.seat.inside.place.table_id c.seat.inside.place.me c.args.seat c.seat.view_is c.seat.invariant in
    let whole = gives g.S.History.entries names _ c.seat.inside.place.table_id c.seat.inside.place.me c.args.seat _ _ c.take-value.result s
    c.requires.first.0 c.requires.first.1 c.requires.ended
    c.close_with-closed.ensures.values.2 c.take-value.ensures.value in
    let value : whole.0 ≡ c.in-Some.value = cc (whole.1, c.in-Some.is) in
    let w = subst (λ x. Gives g.S.History.entries names c.args.seat x) value whole.2 in
    record { begins = w.begins; mine = w.mine; ended = w.ended; others = w.others }
