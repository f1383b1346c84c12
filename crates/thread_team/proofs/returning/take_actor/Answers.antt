use Rattle.std.proofs.Common.{All, List, sym, subst}
use Rattle.step_driver.specs.declared.player.Player.{Player}
use Rattle.thread_team.specs.Returning.{IsOut}
use Rattle.thread_team.proofs.Rows.{All-insert}
use Rattle.thread_team.proofs.returning.take_actor.Goals as goal

pub returns-clause-out : goal.returns-clause-out
returns-clause-out g c =
    let b = g.B.Book in
    let a = g.A.Actor in
    let one = c.in_ok-insert_in_order.ensures.one_more in
    record {
      players =
          subst (λ (players : List (Player g.row.A.Denot)). All (IsOut (b.knows c.args.book.now) b.config b.node b.actor b.seen a.seat a.view c.args.script.now) players) (sym one.2)
          (All-insert (IsOut (b.knows c.args.book.now) b.config b.node b.actor b.seen a.seat a.view c.args.script.now) c.args.all.now.players.items one.0 c.out_of-player.result.0
          c.requires.out.players c.out_of-player.ensures.out);
      in_order = c.in_ok-insert_in_order.ensures.in_order;
      liars = c.requires.out.liars;
    }
