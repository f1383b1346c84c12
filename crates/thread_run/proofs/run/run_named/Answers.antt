use Rattle.run_closing.specs.Joining.{seats_in}
use Rattle.thread_run.proofs.Leavings.{out_of, as_many_seats, closed_with}
use Rattle.thread_run.proofs.run.run_named.Goals as goal

pub close_with-history-requires-clause-all : goal.close_with-history-requires-clause-all
close_with-history-requires-clause-all g c =
    let s = c.args.script in
    let seats = c.in_ok-ends.field-0.seats.items in
    let ends = c.in_ok-ends.field-0.ends.items in
    let first = c.run_over.new.first in
    let left = c.in_ok-ends.ensures.left in
    let out =
    out_of s g.K.Naming.config c.in_ok-book.book c.in_ok-book.first first (seats_in seats) ends c.requires.scenario c.liars-sound.ensures.sound
    c.requires.config c.in_ok-book.ensures c.in_ok-ends.ensures.first left in
    as_many_seats s seats ends first.given left (c.closing_laws.ensures.as_many s left.posts left.players left.liars first out)

pub returns : goal.returns
returns g c =
    let s = c.args.script in
    let seats = seats_in c.in_ok-ends.field-0.seats.items in
    let ends = c.in_ok-ends.field-0.ends in
    let first = c.run_over.new.first in
    let history = c.close_with-history.result in
    let left = c.in_ok-ends.ensures.left in
    let out =
    out_of s g.K.Naming.config c.in_ok-book.book c.in_ok-book.first first seats ends.items c.requires.scenario c.liars-sound.ensures.sound
    c.requires.config c.in_ok-book.ensures c.in_ok-ends.ensures.first left in
    let closed = closed_with s g.K.Naming.config seats ends.items first history.items c.requires.config left c.close_with-history.ensures in
    record {
      ran =
          c.closing_laws.ensures.report s left.posts left.players left.liars first (record { history = history; ends = ends }) out closed left.all_ends;
    }
