use Rattle.std.proofs.Common.{◌≡◌, ◌+◌, ◌-◌, ℕ, vec_len}
use Rattle.lane_core.specs.Lane.{cores_at}
use Rattle.lane_core.proofs.lane.grow.Given as goal

abbrev pub invariant-places : goal.invariant-places
invariant-places l = (k : ℕ) → cores_at l.epochs.items k ≡ cores_at l.initial.epochs.items k

abbrev pub decreases-places : goal.decreases-places
decreases-places l = l.epoch + 1 - vec_len l.epochs
