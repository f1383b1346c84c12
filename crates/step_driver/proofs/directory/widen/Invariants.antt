use Rattle.std.proofs.Common.{◌≡◌, length}
use Rattle.step_driver.specs.Directory.{AreAsBefore}
use Rattle.step_driver.proofs.directory.widen.Given as goal

abbrev pub invariant-loop-number : goal.invariant-loop-number
invariant-loop-number l = record {
  same : AreAsBefore l.fn.groups.items l.groups.items;
  long : length l.groups.items ≡ l._number;
}
