use Rattle.std.proofs.Common.{sym}
use Rattle.last_deliveries.specs.Settling.{players_of}
use Rattle.returned_players.proofs.Leavings.{IsLeft-made, all_known}
use Rattle.returned_players.proofs.Marked.{marked_told}
use Rattle.returned_players.proofs.leaving.finish.Goals as goal

pub returns-clause-left : goal.returns-clause-left
returns-clause-left g c =
    let b = g.B.Book in
    let a = g.A.Actor in
    let after = c.end_and_settle.new in
    let back = c.in_ok-end_and_settle.ensures.returned in
    IsLeft-made b.config b.node b.actor b.seen a.seat a.view c.args.script.now back.0 after.players.items c.as_slice.result.now after.liars.items c.in_ok-seats.seats.items
    c.in_ok-ends.ends.items c.as_slice.ensures.value back.1 c.in_ok-seats.ensures c.in_ok-ends.ensures.ends c.in_ok-ends.ensures.kept

pub returns-clause-of_book : goal.returns-clause-of_book
returns-clause-of_book g c =
    let after = c.end_and_settle.new in
    let settled = c.in_ok-end_and_settle.ensures in
    all_known g.B.Book.knows g.A.Actor.seat after.book c.args.book
    (λ seat known. g.met.B.NamedBook.by_name after.book c.args.book seat (sym settled.book) known) after.players.items after.liars.items c.in_ok-seats.seats.items
    c.in_ok-seats.ensures settled.seats settled.of_book

pub returns-clause-noted : goal.returns-clause-noted
returns-clause-noted g c =
    let b = g.B.Book in
    let a = g.A.Actor in
    marked_told c.args.noted.now (players_of b.config b.node b.actor b.seen a.seat a.view c.as_slice.result.now) c.in_ok-ends.ends.items c.in_ok-ends.ensures.ends
    (rw c.as_slice.ensures.value c.in_ok-end_and_settle.ensures.noted)
