use Rattle.std.proofs.Common.{ℕ, ◌<◌}
use Rattle.hb_rules.specs.Slots.{IsIdle}
use Rattle.quiet_check.specs.Lanes.{epoch_slots}
use Rattle.quiet_check.proofs.lanes.is_lane_idle.Given as goal

-- the epochs before this one owe nothing
abbrev pub invariant-loop-epoch : goal.invariant-loop-epoch
invariant-loop-epoch l = (e : ℕ) → e < l.epoch → IsIdle (epoch_slots l.config l.fn.node l.fn.lane e) l.own l.heard
