use Rattle.std.proofs.Common.{◌≡◌, ℕ, ◌==◌, ◌&&◌, ◌||◌, nat_lt}
use Rattle.actor_cell.specs.Marks.{is_marked}
use Rattle.actor_cell.proofs.marks.Marks.add_numbered.Given as goal

-- those of the nodes so far were added
abbrev pub invariant-loop-node : goal.invariant-loop-node
invariant-loop-node l =
    (i x : ℕ) → is_marked l.self i x ≡ ((((x == l.actor) && nat_lt i l.node) && is_marked l.other i x) || is_marked l.fn.self i x)
