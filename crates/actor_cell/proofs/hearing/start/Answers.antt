use Rattle.hb_rules.specs.declared.actor.ActorFault.TheVariants as faults
use Rattle.hb_rules.specs.declared.report.Fate.TheVariants.{Running}
use Rattle.actor_cell.specs.Held.{player_at}
use Rattle.actor_cell.specs.Turning.{IsSameSeat}
use Rattle.actor_cell.proofs.Hearings.{Starts-recovers, err_is}
use Rattle.actor_cell.proofs.hearing.start.Goals as goal

pub returns-in-Err-clause-starts : goal.returns-in-Err-clause-starts
returns-in-Err-clause-starts g c =
    let b = g.B.Book in
    let a = g.A.Actor in
    let o = player_at b.config b.node b.actor b.seen a.seat a.view c.args.actor.now Running in
    let p = player_at b.config b.node b.actor b.seen a.seat a.view c.start.new.self Running in
    let q = player_at b.config b.node b.actor b.seen a.seat a.view c.recover.new.actor c.recover.result in
    let seat : IsSameSeat o p = record { config = c.in-Err.ensures.same.0; node = c.in-Err.ensures.same.1; actor = c.in-Err.ensures.same.2 } in
    Starts-recovers o p q c.in-Err.fault c.args.out.now c.start.new.out c.recover.new.out seat c.in-Err.ensures.seen c.in-Err.ensures.goes c.in-Err.ensures.got
    (λ other. c.in-Err.ensures.told (λ is. other (err_is c.in-Err.fault faults.Memory is))) c.recover.ensures.recovers c.recover.ensures.journal
    (λ other. (c.in-Err.ensures.unfailed (λ is. other (err_is c.in-Err.fault faults.Journal is))).no_fault) c.recover.ensures.tried
