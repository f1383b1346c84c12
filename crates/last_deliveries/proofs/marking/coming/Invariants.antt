use Rattle.std.proofs.Common.{◌≡◌, ℕ, ◌<◌, [], true, Contains}
use Rattle.last_deliveries.specs.Catching.{lacks}
use Rattle.last_deliveries.proofs.marking.coming.Given as goal

-- those that come of the posts so far were added
abbrev pub invariant-loop-k : goal.invariant-loop-k
invariant-loop-k l = (j : ℕ) → j < l.k → lacks l.script l.posts [] l.node l.actor j ≡ true → Contains l.numbers.items j
