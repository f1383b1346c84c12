use Rattle.std.proofs.Common.{◌≡◌, ◌++◌, All, map, length}
use Rattle.std.specs.List.{range_with_len}
use Rattle.std.specs.Vec.Iter.{into_iter_items}
use Rattle.actor_cell.specs.Passes.{names_of, AreNewPasses}
use Rattle.actor_cell.proofs.passes.Passes.deal.Given as goal

-- the take passes so far have their put passes
abbrev pub invariant-loop-take : goal.invariant-loop-take
invariant-loop-take l = record {
  rest : l.yielded ++ into_iter_items l.take-iterator ≡ l.fn.takes.items;
  firsts : names_of l.firsts.items ≡ l.boxes;
  takes : map (λ p. p.take) l.all.items ≡ l.yielded;
  places : map (λ p. p.place) l.all.items ≡ range_with_len 0 (length l.all.items);
  new : All (AreNewPasses l.boxes) l.all.items;
}
