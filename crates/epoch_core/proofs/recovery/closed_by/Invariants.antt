use Rattle.std.proofs.Common.{◌≡◌, ℕ, ◌<◌, true}
use Rattle.std.specs.List.{list_any}
use Rattle.hb_rules.specs.Claims.{is_any_closing}
use Rattle.epoch_core.proofs.recovery.closed_by.Given as goal

abbrev pub invariant-loop-epoch : goal.invariant-loop-epoch
invariant-loop-epoch l = (e : ℕ) → e < l.epoch → list_any (is_any_closing e) l.own ≡ true
