use Rattle.std.proofs.Common.{length}
use Rattle.hb_rules.specs.declared.report.Fate.TheVariants.{Running}
use Rattle.actor_cell.specs.Held.{player_at}
use Rattle.actor_cell.proofs.Hearings.{IsShown-of, OnErr-any, below}
use Rattle.actor_cell.proofs.hearing.look.Goals as goal

pub returns-in_err-found-clause-shown : goal.returns-in_err-found-clause-shown
returns-in_err-found-clause-shown g c =
    let b = g.B.Book in
    let a = g.A.Actor in
    IsShown-of (player_at b.config b.node b.actor b.seen a.seat a.view c.args.actor.now Running) (player_at b.config b.node b.actor b.seen a.seat a.view c.read.new.self Running)
    c.kept.ensures.is c.read.ensures.same c.read.ensures.watched c.read.ensures.still

pub returns-clause-shown : goal.returns-clause-shown
returns-clause-shown g c =
    let b = g.B.Book in
    let a = g.A.Actor in
    IsShown-of (player_at b.config b.node b.actor b.seen a.seat a.view c.args.actor.now Running) (player_at b.config b.node b.actor b.seen a.seat a.view c.read.new.self Running)
    c.kept.ensures.is c.read.ensures.same c.read.ensures.watched c.read.ensures.still

pub returns-in_err-found-clause-stands : goal.returns-in_err-found-clause-stands
returns-in_err-found-clause-stands g c =
    let b = g.B.Book in
    let a = g.A.Actor in
    OnErr-any c.from_residual.result _ (below (length (b.seen (a.seat c.read.new.self))) c.args.k (λ le. cc (c.in_err-found.ensures.none le)))
