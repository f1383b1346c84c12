use Rattle.std.proofs.lemmas.List.Elements.{All-push}
use Rattle.thread_team.specs.Returning.{IsLiarOut}
use Rattle.thread_team.proofs.returning.take_liar.Goals as goal

pub returns-clause-out : goal.returns-clause-out
returns-clause-out g c =
    let b = g.B.Book in
    record {
      players = c.requires.out.players;
      in_order = c.requires.out.in_order;
      liars =
          rw c.in_ok-push.ensures.items
          (All-push (IsLiarOut (b.knows c.args.book.now) b.config b.node b.actor b.seen c.args.script.now) c.args.all.now.liars.items c.seat_of-seat.result.0
          c.requires.out.liars c.seat_of-seat.ensures.out);
    }
