use Rattle.std.proofs.Common.{refl}
use Rattle.hb_rules.specs.declared.actor.ActorFault.TheVariants as faults
use Rattle.hb_rules.specs.declared.report.Fate.TheVariants.{Running}
use Rattle.step_driver.specs.Playing.{IsRefused}
use Rattle.actor_cell.specs.Held.{player_at}
use Rattle.actor_cell.specs.Turning.{IsSameSeat}
use Rattle.actor_cell.proofs.Hearings.{Recovers-again, IsTried-again, IsRecovering-on, restarts_after_journal, may_of, moved_on, Explains-of, ok_not_err, err_of, err_is}
use Rattle.actor_cell.proofs.hearing.recover.Goals as goal

pub returns-in-Ok-clause-recovers : goal.returns-in-Ok-clause-recovers
returns-in-Ok-clause-recovers g c =
    let b = g.B.Book in
    let a = g.A.Actor in
    let p = player_at b.config b.node b.actor b.seen a.seat a.view c.off.actor Running in
    let q = player_at b.config b.node b.actor b.seen a.seat a.view c.restart.new.self Running in
    let seat : IsSameSeat p q = record { config = c.in-Ok.ensures.same.0; node = c.in-Ok.ensures.same.1; actor = c.in-Ok.ensures.same.2 } in
    Recovers-again (player_at b.config b.node b.actor b.seen a.seat a.view c.args.actor.now Running) p q c.args.fault c.off.fault c.args.out.now c.off.out c.restart.new.out
    c.off.invariant.recovering (restarts_after_journal c.off.fault c.is_off.result c.may_restart.result c.may_restart.ensures c.off-test.true) seat c.in-Ok.ensures.seen c.in-Ok.ensures.goes c.in-Ok.ensures.on
    c.in-Ok.ensures.live refl (c.in-Ok.ensures.told (λ is. ok_not_err tt faults.Memory is))

pub returns-in-Ok-clause-tried : goal.returns-in-Ok-clause-tried
returns-in-Ok-clause-tried g c =
    let b = g.B.Book in
    let a = g.A.Actor in
    let p = player_at b.config b.node b.actor b.seen a.seat a.view c.off.actor Running in
    let q = player_at b.config b.node b.actor b.seen a.seat a.view c.restart.new.self Running in
    IsTried-again (player_at b.config b.node b.actor b.seen a.seat a.view c.args.actor.now Running) p q c.args.fault c.off.fault c.args.out.now c.off.out c.off.invariant.recovering
    (may_of c.off.fault p.view.supply.off c.is_off.result c.may_restart.result c.may_restart.ensures c.is_off.ensures c.off-test.true) c.in-Ok.ensures.on

pub off-preserved : goal.off-preserved
off-preserved g c =
    let b = g.B.Book in
    let a = g.A.Actor in
    let o = player_at b.config b.node b.actor b.seen a.seat a.view c.args.actor.now Running in
    let p = player_at b.config b.node b.actor b.seen a.seat a.view c.off.actor Running in
    let q = player_at b.config b.node b.actor b.seen a.seat a.view c.restart.new.self Running in
    let seat : IsSameSeat p q = record { config = c.in-Err.ensures.same.0; node = c.in-Err.ensures.same.1; actor = c.in-Err.ensures.same.2 } in
    let refused : IsRefused c.in-Err.next q = record {
      ended = c.in-Err.ensures.ended;
      cause = Explains-of c.in-Err.next q (λ is. c.in-Err.ensures.full (err_of c.in-Err.next faults.Full is)) (λ is. (c.in-Err.ensures.journal is).1);
    } in
    record {
      seat = c.in-Err.ensures.seat;
      moved = moved_on b.moved g.met.B.Book.goes_on c.args.book.now c.off.book c.restart.new.book o p c.off.invariant.recovering.seat c.off.invariant.moved c.in-Err.ensures.moved;
      recovering = IsRecovering-on o p q c.args.fault c.off.fault c.in-Err.next c.args.out.now c.off.out c.restart.new.out c.off.invariant.recovering
          (may_of c.off.fault p.view.supply.off c.is_off.result c.may_restart.result c.may_restart.ensures c.is_off.ensures c.off-test.true) seat c.in-Err.ensures.seen c.in-Err.ensures.goes c.in-Err.ensures.either
          (λ still. err_is c.in-Err.next faults.Memory (c.in-Err.ensures.still still).0) refused (λ other. c.in-Err.ensures.told (λ is. other (err_is c.in-Err.next faults.Memory is)));
    }
