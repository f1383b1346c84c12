use Rattle.std.proofs.Common.{[], ◌∷◌, ◌∙◌, arith, length-append}
use Rattle.std.specs.Vec.Iter.{into_iter_items}
use Rattle.actor_cell.specs.Marks.{is_marked}
use Rattle.thread_team.proofs.Rows.{gone_on, stays_marked}
use Rattle.thread_team.proofs.returning.take_actors.Goals as goal

pub loop-cell-preserved : goal.loop-cell-preserved
loop-cell-preserved g c = record {
  split =
      gone_on c.loop-cell.yielded (into_iter_items c.loop-cell.cell-iterator) (into_iter_items c.next.new.self) c.args.cells.items c.in-Some.cell
      c.in-Some.ensures.steps.0 c.loop-cell.invariant.split;
  out = c.in_ok-take_actor.ensures.out;
  count =
      omega (arith, c.in_ok-take_actor.ensures.count, length-append c.loop-cell.yielded (c.in-Some.cell ∷ []), c.loop-cell.invariant.count);
  liars = c.in_ok-take_actor.ensures.liars ∙ c.loop-cell.invariant.liars;
  noted =
      λ i x below few was.
      stays_marked (is_marked c.into_held.result.mail.noted i x) (is_marked c.loop-cell.all.noted i x) (is_marked c.take_actor.new.all.noted i x)
      (c.in_ok-take_actor.ensures.noted i x below few) (c.loop-cell.invariant.noted i x below few was);
}
