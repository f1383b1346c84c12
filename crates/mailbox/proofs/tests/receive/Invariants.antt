use Rattle.std.proofs.Common.{◌≡◌, []}
use Rattle.mailbox.proofs.tests.receive.Given as goal

abbrev pub invariant-loop : goal.invariant-loop
invariant-loop g l = (l.pass.at ≡ l.mailbox) × (l.pass.splits ≡ [])
