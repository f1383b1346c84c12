use Rattle.std.proofs.Common.{◌≡◌, ℕ, ◌<◌, true}
use Rattle.aba_world.specs.Marked.{agrees_at}
use Rattle.aba_world.proofs.marks.all_agree.Given as goal

abbrev pub invariant-loop-place : goal.invariant-loop-place
invariant-loop-place l = (s : ℕ) → s < l.place → agrees_at l.begun l.decided s ≡ true
