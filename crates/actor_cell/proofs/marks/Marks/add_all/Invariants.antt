use Rattle.std.proofs.Common.{◌≡◌, ℕ, ◌<◌, ◌&&◌, ◌||◌, nat_lt}
use Rattle.hb_base.specs.Limits.{most_nodes}
use Rattle.actor_cell.specs.Marks.{is_marked}
use Rattle.actor_cell.proofs.marks.Marks.add_all.Given as goal

-- those with the numbers so far were added
abbrev pub invariant-loop-actor : goal.invariant-loop-actor
invariant-loop-actor l =
    (i x : ℕ) → i < most_nodes → is_marked l.self i x ≡ ((nat_lt x l.actor && is_marked l.other i x) || is_marked l.fn.self i x)
