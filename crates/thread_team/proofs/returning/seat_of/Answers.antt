use Rattle.thread_team.proofs.Outs.{is_liar_out}
use Rattle.thread_team.proofs.returning.seat_of.Goals as goal

pub returns-clause-out : goal.returns-clause-out
returns-clause-out g c =
    let b = g.B.Book in
    is_liar_out b.knows b.config b.node b.actor b.seen g.J.RunName.is_script g.J.RunName.book g.B.NamedBook.name g.J.RunName.one_script g.met.B.NamedBook.by_name
    c.args.script.now c.args.book.now c.requires.script c.requires.name c.into_parts.result.0 c.args.liar
    c.into_parts.ensures.of_book c.into_parts.ensures.seat c.into_parts.ensures.held
