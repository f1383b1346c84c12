use Rattle.std.proofs.Common.{ap, ◌∙◌}
use Rattle.turn_book.specs.SeatState.{new_seat}
use Rattle.turn_book.proofs.Showing.{new_ready, new_shown}
use Rattle.turn_book.proofs.book.TurnBook.split.Goals as goal

pub invariant_of-result : goal.invariant_of-result
invariant_of-result g c = new_ready g.S.History.names c.args.number c.seat.inside.place.me.0 c.split_as-place.result.me c.settle.new.place.me
    c.split_as-place.ensures.new.1 c.settle.ensures.settles

pub returns-clause-new : goal.returns-clause-new
returns-clause-new g c =
    let book = c.settle.ensures.table ∙ (c.split_as-place.ensures.new.0 ∙ (ap (λ s. s.book) c.seat.view_is ∙ c.requires.book)) in
    let seen = ap (λ s. s.seen) c.seat.view_is in
    new_shown g.S.History.names c.args.number c.seat.inside.place.me.0 c.split_as-place.result.me c.settle.new.place.me
    c.split_as-place.ensures.new.1 c.settle.ensures.settles c.settle.new.place.table_id
    ∙ (λ i. new_seat (book i) c.args.number (seen i))
