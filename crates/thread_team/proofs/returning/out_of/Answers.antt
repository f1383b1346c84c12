use Rattle.thread_team.proofs.Outs.{is_out}
use Rattle.thread_team.proofs.returning.out_of.Goals as goal

pub returns-clause-out : goal.returns-clause-out
returns-clause-out g c =
    let b = g.B.Book in
    let held = c.args.held in
    is_out b.knows b.config b.node b.actor b.seen g.J.RunName.is_script g.J.RunName.book g.B.NamedBook.name g.J.RunName.one_script g.met.B.NamedBook.by_name
    c.args.script.now c.args.book.now c.requires.script c.requires.name g.A.Actor.seat g.A.Actor.view
    (record { actor = c.into_parts-actor.result.0; fate = c.into_parts-actor.result.1 }) held.book held.script held.mail c.into_parts-actor.ensures.held
