use Rattle.std.proofs.Common.{ℕ, ◌-◌}
use Rattle.epoch_core.specs.Tables.{ArePlaced}
use Rattle.epoch_core.specs.Closing.{kept, AreClosed}
use Rattle.epoch_core.proofs.closing.close_all.Given as goal

abbrev pub invariant-loop-epoch : goal.invariant-loop-epoch
invariant-loop-epoch l = (i : ℕ) → ArePlaced l.config i l.tables
    → AreClosed l.config i l.tables l.from (l.epoch - l.from) (kept l.initial.pool l.initial.pending) (kept l.pool l.pending)
