use Rattle.std.proofs.Common.{arith}
use Rattle.last_deliveries.specs.Catching.{HasLooked}
use Rattle.last_deliveries.specs.Settling.{players_of, seats_at, HasGoneOn}
use Rattle.last_deliveries.proofs.Catches.{HasGoneOn-looked}
use Rattle.last_deliveries.proofs.Settles.{IsSettled-level}
use Rattle.last_deliveries.proofs.Zips.{AllZip-weaker}
use Rattle.last_deliveries.proofs.settling.close.Goals as goal

pub returns-then-most-count-clause-settled : goal.returns-then-most-count-clause-settled
returns-then-most-count-clause-settled g c =
    let b = g.B.Book in
    let a = g.A.Actor in
    λ posts reader is read heard.
    IsSettled-level c.args.script.now posts reader c.args.count (players_of b.config b.node b.actor b.seen a.seat a.view c.args.players.now.items)
    (players_of b.config b.node b.actor b.seen a.seat a.view c.are_level-is_level.new.players.items) (seats_at b.config b.node b.actor b.seen c.highest-most.new.seats.items)
    read heard c.are_level-is_level.ensures.looked (c.are_level-is_level.ensures.level c.if-is_level.true) is
    (λ k d within. omega (arith, c.highest-most.ensures.most k d within, c.if-most-count.true))

pub returns-then-most-count-clause-went : goal.returns-then-most-count-clause-went
returns-then-most-count-clause-went g c =
    let b = g.B.Book in
    let a = g.A.Actor in
    AllZip-weaker HasLooked HasGoneOn HasGoneOn-looked (players_of b.config b.node b.actor b.seen a.seat a.view c.args.players.now.items)
    (players_of b.config b.node b.actor b.seen a.seat a.view c.are_level-is_level.new.players.items) c.are_level-is_level.ensures.looked

pub returns-clause-went : goal.returns-clause-went
returns-clause-went g c =
    let b = g.B.Book in
    let a = g.A.Actor in
    AllZip-weaker HasLooked HasGoneOn HasGoneOn-looked (players_of b.config b.node b.actor b.seen a.seat a.view c.args.players.now.items)
    (players_of b.config b.node b.actor b.seen a.seat a.view c.are_level-is_level.new.players.items) c.are_level-is_level.ensures.looked
