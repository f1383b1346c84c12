use Rattle.hb_rules.specs.declared.report.Fate.TheVariants.{Running}
use Rattle.actor_cell.specs.Held.{player_at}
use Rattle.actor_cell.proofs.Hearings.{IsShown-of}
use Rattle.last_deliveries.proofs.reading.read_one.Goals as goal

pub returns-clause-shown : goal.returns-clause-shown
returns-clause-shown g c =
    let b = g.B.Book in
    let a = g.A.Actor in
    IsShown-of (player_at b.config b.node b.actor b.seen a.seat a.view c.args.actor.now Running) (player_at b.config b.node b.actor b.seen a.seat a.view c.read.new.self Running)
    c.kept.ensures.is c.read.ensures.same c.read.ensures.watched c.read.ensures.still
