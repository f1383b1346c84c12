use Rattle.std.proofs.Common.{length}
use Rattle.step_driver.proofs.Turns.{begun_at, seat_at, fresh_at, place_within}
use Rattle.step_driver.proofs.run.start_at.Goals as goal

pub start-requires : goal.start-requires
start-requires g c =
    let places = c.args.places.now.items in
    let old = c.index_mut-place.result.now in
    record {
      seat = seat_at g.A.Actor.seat g.A.Actor.view c.args.script.now c.args.number c.args.number c.args.book.now places old c.requires.within c.index_mut-place.ensures.value c.requires.stage;
      spot = fresh_at g.A.Actor.seat g.A.Actor.view c.args.script.now c.args.number c.args.book.now places old c.requires.within c.index_mut-place.ensures.value c.requires.stage;
    }

pub returns : goal.returns
returns g c =
    let places = c.args.places.now.items in
    let old = c.index_mut-place.result.now in
    record {
      turn = begun_at g.A.Actor.seat g.A.Actor.view c.args.script.now (length c.start.new.book.posts) c.args.number c.args.book.now c.start.new.book places old c.start.new.self c.start.result
          c.requires.within c.index_mut-place.ensures.value c.requires.stage c.start.ensures;
      place = place_within g.A.Actor.seat g.A.Actor.view c.args.number places c.start.new.self c.start.result c.requires.within;
    }
