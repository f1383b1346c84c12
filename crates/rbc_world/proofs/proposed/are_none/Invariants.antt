use Rattle.std.proofs.Common.{◌≡◌, ℕ, ◌<◌, ◌/◌, false, None}
use Rattle.hb_base.specs.NodeSet.{is_in}
use Rattle.rbc_world.specs.Claimed.{entry}
use Rattle.rbc_world.proofs.proposed.are_none.Given as goal

abbrev pub invariant-loop-place : goal.invariant-loop-place
invariant-loop-place l = (s : ℕ) → s < l.place → is_in l.liars (s / 32) ≡ false → entry l.table s ≡ None
