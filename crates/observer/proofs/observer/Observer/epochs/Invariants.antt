use Rattle.std.proofs.Common.{◌≡◌, ℕ, ◌<◌, true, is_some}
use Rattle.observer.specs.Standing.{list_at}
use Rattle.observer.proofs.observer.Observer.epochs.Given as goal

-- each epoch so far has a list
abbrev pub invariant-loop-epoch : goal.invariant-loop-epoch
invariant-loop-epoch l = (d : ℕ) → d < l.epoch → is_some (list_at l.self d) ≡ true
