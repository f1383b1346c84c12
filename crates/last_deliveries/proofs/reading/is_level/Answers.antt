use Rattle.hb_rules.specs.declared.report.Fate.TheVariants.{Running}
use Rattle.actor_cell.specs.Held.{player_at}
use Rattle.actor_cell.proofs.Hearings.{IsShown-then}
use Rattle.last_deliveries.proofs.reading.is_level.Goals as goal

pub returns-clause-shown : goal.returns-clause-shown
returns-clause-shown g c =
    let b = g.B.Book in
    let a = g.A.Actor in
    IsShown-then (player_at b.config b.node b.actor b.seen a.seat a.view c.args.actor.now Running) (player_at b.config b.node b.actor b.seen a.seat a.view c.stands.new.actor Running)
    (player_at b.config b.node b.actor b.seen a.seat a.view c.ends_by-2.new.actor Running) c.stands.ensures.shown c.ends_by-2.ensures.shown
