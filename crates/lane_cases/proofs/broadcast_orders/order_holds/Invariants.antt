use Rattle.std.proofs.Common.{◌≡◌}
use Rattle.rbc_core.specs.Broadcast.{place_of}
use Rattle.lane_cases.proofs.broadcast_orders.order_holds.Given as goal

abbrev pub invariant-loop-place : goal.invariant-loop-place
invariant-loop-place l = (place_of l.rbc).config ≡ l.fn.config
