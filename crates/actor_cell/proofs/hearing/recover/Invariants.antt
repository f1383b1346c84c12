use Rattle.hb_rules.specs.declared.report.Fate.TheVariants.{Running}
use Rattle.actor_cell.specs.Held.{player_at}
use Rattle.actor_cell.proofs.Hearings.{IsRecovering}
use Rattle.step_driver.proofs.Playing.{fails_left}
use Rattle.actor_cell.proofs.hearing.recover.Given as goal

abbrev pub invariant-off : goal.invariant-off
invariant-off g l =
    let b = g.B.Book in
    let a = g.A.Actor in
    record {
      seat : b.knows l.book (a.seat l.actor);
      moved : b.moved (b.node (a.seat l.fn.actor)) (b.actor (a.seat l.fn.actor)) l.fn.book l.book;
      recovering : IsRecovering (player_at b.config b.node b.actor b.seen a.seat a.view l.fn.actor Running)
          (player_at b.config b.node b.actor b.seen a.seat a.view l.actor Running) l.fn.fault l.fault l.fn.out l.out;
    }

abbrev pub decreases-off : goal.decreases-off
decreases-off g l =
    let b = g.B.Book in
    let a = g.A.Actor in
    fails_left l.fault (player_at b.config b.node b.actor b.seen a.seat a.view l.actor Running)
