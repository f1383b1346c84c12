use Rattle.rs_shards.proofs.Completions.{AreEven-from_test, are_even-is, completed-rebuilt, completed-only, rebuilt-even}
use Rattle.std.proofs.Common.{take}
use Rattle.rs_shards.proofs.laws.completing_laws.Goals as goal

pub returns-clause-rebuilt : goal.returns-clause-rebuilt
returns-clause-rebuilt c n k got some few enough are even = completed-rebuilt n k some few got enough are (AreEven-from_test (take k got) even)

pub returns-clause-only : goal.returns-clause-only
returns-clause-only c n k got shards some few enough are h = completed-only n k some few got enough are shards h

pub returns-clause-even : goal.returns-clause-even
returns-clause-even c n k got shards some few enough are h = are_even-is (take k got) (rebuilt-even n k some few got enough are shards h)

pub returns-clause-tested : goal.returns-clause-tested
returns-clause-tested c got = (AreEven-from_test got, are_even-is got)
