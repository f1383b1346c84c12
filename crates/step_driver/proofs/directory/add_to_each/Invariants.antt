use Rattle.std.proofs.Common.{nat_lt}
use Rattle.step_driver.specs.Directory.{IsGrown}
use Rattle.step_driver.proofs.directory.add_to_each.Given as goal

abbrev pub invariant-loop-number : goal.invariant-loop-number
invariant-loop-number l = IsGrown (λ i. nat_lt i l.number) l.place l.fn.groups.items l.groups.items
