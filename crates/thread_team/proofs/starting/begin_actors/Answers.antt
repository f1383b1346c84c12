use Rattle.std.proofs.Common.{[], ◌∷◌, length, ap, arith, length-append}
use Rattle.std.specs.Vec.Iter.{into_iter_items}
use Rattle.step_driver.specs.Places.{seat_at}
use Rattle.run_openings.specs.Opening.{IsActorOpening}
use Rattle.thread_team.proofs.Rows.{gone_on, next_has}
use Rattle.thread_team.proofs.starting.begin_actors.Goals as goal

pub begin_actor-requires-clause-opening : goal.begin_actor-requires-clause-opening
begin_actor-requires-clause-opening g c =
    let b = g.B.Book in
    next_has (IsActorOpening (b.knows c.args.book) (seat_at b.config b.node b.actor b.seen) c.args.boxes.now c.args.script.now.config)
    c.loop-opening.yielded (into_iter_items c.loop-opening.opening-iterator) (into_iter_items c.next.new.self) c.args.openings.items c.in-Some.opening
    c.in-Some.ensures.steps.0 c.loop-opening.invariant.split c.requires.openings

pub loop-opening-preserved : goal.loop-opening-preserved
loop-opening-preserved g c = record {
  split =
      gone_on c.loop-opening.yielded (into_iter_items c.loop-opening.opening-iterator) (into_iter_items c.next.new.self) c.args.openings.items c.in-Some.opening
      c.in-Some.ensures.steps.0 c.loop-opening.invariant.split;
  count =
      omega (
        arith,
        ap length c.in_ok-push.ensures.items,
        length-append c.loop-opening.cells.items (c.in_ok-cell.cell ∷ []),
        length-append c.loop-opening.yielded (c.in-Some.opening ∷ []),
        c.loop-opening.invariant.count,
      );
}
