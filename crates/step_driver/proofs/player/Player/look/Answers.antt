use Rattle.std.proofs.Common.{◌∙◌, refl}
use Rattle.step_driver.specs.Places.{player_view}
use Rattle.step_driver.proofs.Playing.{HasLooked-of, IsReceived-found, not_received, found_same}
use Rattle.step_driver.proofs.player.Player.look.Goals as goal

pub returns-in_err-found-clause-looked : goal.returns-in_err-found-clause-looked
returns-in_err-found-clause-looked g c =
    HasLooked-of c.args.book.now c.read.new.book (player_view g.A.Actor.seat g.A.Actor.view c.args.self.now)
    (record { seat = g.A.Actor.seat c.read.new.self; view = g.A.Actor.view c.read.new.self; fate = c.args.self.now.fate })
    c.read.ensures.seat c.read.ensures.same c.read.ensures.moved c.read.ensures.watched c.read.ensures.still refl c.read.ensures.whole

pub returns : goal.returns
returns g c =
    let seat = g.A.Actor.seat c.read.new.self in
    let same =
    found_same c.config-config.result c.args.book.now.config c.args.script.now c.in_ok-found.found c.node-node.result seat.node c.actor-actor.result seat.actor c.args.k c.comes_found.result
    c.comes_found.ensures c.config-config.ensures c.node-node.ensures c.actor-actor.ensures in
    record {
      looked =
          HasLooked-of c.args.book.now c.read.new.book (player_view g.A.Actor.seat g.A.Actor.view c.args.self.now)
          (record { seat = seat; view = g.A.Actor.view c.read.new.self; fate = c.args.self.now.fate })
          c.read.ensures.seat c.read.ensures.same c.read.ensures.moved c.read.ensures.watched c.read.ensures.still refl c.read.ensures.whole;
      comes = λ is. IsReceived-found c.args.book.now.config c.args.script.now c.in_ok-found.found seat.seen seat.node seat.actor c.args.k c.in_ok-found.ensures.found (same ∙ is);
      stays = λ is. not_received c.args.book.now.config c.args.script.now c.in_ok-found.found seat.seen seat.node seat.actor c.args.k c.in_ok-found.ensures.found (same ∙ is);
    }
