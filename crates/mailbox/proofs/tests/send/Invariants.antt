use Rattle.std.proofs.Common.{◌≡◌}
use Rattle.mailbox.proofs.tests.send.Given as goal

abbrev pub invariant-loop-i : goal.invariant-loop-i
invariant-loop-i g l = (l.pass.at ≡ l.mailbox) × (l.pass.splits ≡ l.initial.pass.splits)
