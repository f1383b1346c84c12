use Rattle.std.proofs.Common.{length}
use native.Mathlib.Omega.{arith}
use Rattle.step_driver.specs.Places.{spots}
use Rattle.step_driver.proofs.Occupants.{spots_count}
use Rattle.step_driver.proofs.Turns.{heard_at, seat_at, started_at, IsTurn-none, place_within}
use Rattle.step_driver.proofs.run.serve_at.Goals as goal

pub returns-then-taken-len : goal.returns-then-taken-len
returns-then-taken-len g c = record {
  turn =
      IsTurn-none g.A.Actor.seat g.A.Actor.view c.args.script.now c.args.taken.post (length (spots g.A.Actor.seat g.A.Actor.view c.args.places.now.items)) c.args.taken.place
      c.args.book.now c.args.places.now.items (omega (arith, c.if-taken-len.true, c.len.ensures)) c.requires.stage;
  place = tt;
}

pub hear-requires : goal.hear-requires
hear-requires g c =
    let places = c.args.places.now.items in
    let n = length (spots g.A.Actor.seat g.A.Actor.view places) in
    let old = c.index_mut-place.result.now in
    record {
      seat = seat_at g.A.Actor.seat g.A.Actor.view c.args.script.now n c.args.taken.place c.args.book.now places old (omega (arith, c.if-taken-len.false, c.len.ensures)) c.index_mut-place.ensures.value c.requires.stage;
      spot = started_at g.A.Actor.seat g.A.Actor.view c.args.script.now n c.args.taken.place c.args.book.now places old (omega (arith, c.if-taken-len.false, c.len.ensures)) c.index_mut-place.ensures.value
          (omega (arith, c.if-taken-len.false, c.len.ensures, spots_count g.A.Actor.seat g.A.Actor.view places)) c.requires.stage;
    }

pub returns : goal.returns
returns g c =
    let places = c.args.places.now.items in
    let old = c.index_mut-place.result.now in
    record {
      turn = heard_at g.A.Actor.seat g.A.Actor.view c.args.script.now c.args.taken.post c.args.taken.place c.args.book.now c.hear.new.book places old c.hear.new.self c.hear.result
          (omega (arith, c.if-taken-len.false, c.len.ensures)) c.index_mut-place.ensures.value c.requires.stage c.hear.ensures;
      place = place_within g.A.Actor.seat g.A.Actor.view c.args.taken.place places c.hear.new.self c.hear.result (omega (arith, c.if-taken-len.false, c.len.ensures));
    }
