use Rattle.std.proofs.Common.{List, ℕ, arith, ap, sym, subst, ◌∙◌, Some}
use Rattle.std.specs.List.{Contains}
use Rattle.turn_book.proofs.Seating.{ends}
use Rattle.turn_book.proofs.Showing.{sits, end_given, end_once}
use Rattle.turn_book.proofs.book.TurnBook.join.Goals as goal

pub join_seat-requires : goal.join_seat-requires
join_seat-requires g c =
    let names = g.S.History.names in
    let s = sits names c.seat.inside.place.table_id c.seat.inside.place.me c.args.seat.now c.seat.view_is c.seat.invariant in
    let o = sits names c.other.inside.place.table_id c.other.inside.place.me c.args.other c.other.view_is c.other.invariant in
    let idle = c.other.invariant.outside (o.in_turn ∙ c.requires.turns.1) in (
      s.book_is ∙ (c.requires.book.0 ∙ sym c.self.view_is),
      o.book_is ∙ (c.requires.book.1 ∙ sym c.self.view_is),
      idle,
      omega (arith, c.self.invariant.0),
      ends g.S.History.entries names _ c.seat.inside.place.me.0 _ c.other.inside.place.me.0 c.args.other.number
          (s.number ∙ ap Some c.requires.first) o.number (o.in_turn ∙ c.requires.turns.1),
    )

pub returns-clause-given : goal.returns-clause-given
returns-clause-given g c =
    let names = g.S.History.names in
    let s = sits names c.seat.inside.place.table_id c.seat.inside.place.me c.args.seat.now c.seat.view_is c.seat.invariant in
    let o = sits names c.other.inside.place.table_id c.other.inside.place.me c.args.other c.other.view_is c.other.invariant in
    subst (λ (l : List ℕ). Contains l c.args.other.number) s.given
    (end_given names c.args.other.number c.seat.inside.place.me.0 c.other.inside.place.me.0 c.join_seat.new.seat.me c.settle.new.place.me
    (ap (λ m. m.0) c.join_seat.ensures.2)
    (s.number ∙ ap Some c.requires.first) o.number c.settle.ensures.settles)

pub returns-clause-once : goal.returns-clause-once
returns-clause-once g c =
    let names = g.S.History.names in
    let s = sits names c.seat.inside.place.table_id c.seat.inside.place.me c.args.seat.now c.seat.view_is c.seat.invariant in
    let o = sits names c.other.inside.place.table_id c.other.inside.place.me c.args.other c.other.view_is c.other.invariant in
    λ entries has. end_once names c.args.other.number c.seat.inside.place.me.0 c.other.inside.place.me.0 c.join_seat.new.seat.me
    c.settle.new.place.me (ap (λ m. m.0) c.join_seat.ensures.2)
    (s.number ∙ ap Some c.requires.first) o.number c.settle.ensures.settles
    entries
    (subst (λ l. Contains l (c.args.other.number, entries)) (sym s.ended) has)
