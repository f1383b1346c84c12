use Rattle.std.proofs.Common.{◌≡◌, ℕ, ◌<◌, false}
use Rattle.quiet_check.specs.Desks.{owes_in}
use Rattle.quiet_check.proofs.desks.is_desk_idle.Given as goal

-- the epochs before this one owe nothing
abbrev pub invariant-loop-epoch : goal.invariant-loop-epoch
invariant-loop-epoch l = (e : ℕ) → e < l.epoch → owes_in l.config e l.own l.heard ≡ false
