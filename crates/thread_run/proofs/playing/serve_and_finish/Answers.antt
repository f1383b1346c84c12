use Rattle.std.proofs.Common.{◌∙◌}
use Rattle.thread_run.proofs.Outs.{players_back, players_known, liars_back, liars_known}
use Rattle.thread_run.proofs.playing.serve_and_finish.Goals as goal

pub finish-requires-clause-seats : goal.finish-requires-clause-seats
finish-requires-clause-seats g c κs within =
    let b = g.B.Book in
    let a = g.A.Actor in
    let out = c.in_ok-players.ensures.out in
    players_known b.config b.node b.actor b.seen a.seat a.view (b.knows c.args.book) c.args.script.now c.in_ok-players.field-0.players.items out.players

pub finish-requires-clause-back : goal.finish-requires-clause-back
finish-requires-clause-back g c κs within =
    let b = g.B.Book in
    let a = g.A.Actor in
    let out = c.in_ok-players.ensures.out in
    players_back b.config b.node b.actor b.seen a.seat a.view (b.knows c.args.book) c.args.script.now c.in_ok-players.field-0.players.items out.players

pub finish-requires-clause-in_order : goal.finish-requires-clause-in_order
finish-requires-clause-in_order g c κs within = c.in_ok-players.ensures.out.in_order

pub finish-requires-clause-of_book : goal.finish-requires-clause-of_book
finish-requires-clause-of_book g c κs within =
    let b = g.B.Book in
    let a = g.A.Actor in
    liars_known b.config b.node b.actor b.seen a.seat a.view (b.knows c.args.book) c.args.script.now c.in_ok-players.field-0.liars.items c.in_ok-players.ensures.out.liars

pub finish-requires-clause-liars : goal.finish-requires-clause-liars
finish-requires-clause-liars g c κs within =
    let b = g.B.Book in
    let a = g.A.Actor in
    liars_back b.config b.node b.actor b.seen a.seat a.view (b.knows c.args.book) c.args.script.now c.in_ok-players.field-0.liars.items c.in_ok-players.ensures.out.liars

pub finish-requires-clause-all : goal.finish-requires-clause-all
finish-requires-clause-all g c κs within = c.in_ok-players.ensures.count ∙ c.requires.all
