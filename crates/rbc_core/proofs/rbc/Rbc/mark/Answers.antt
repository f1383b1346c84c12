use Rattle.std.proofs.Common.{arith}
use Rattle.rbc_core.proofs.rbc.Rbc.mark.Goals as goal

pub add-requires : goal.add-requires
add-requires c = let spelled = rw c.in-Val.is at c.requires.spelled in omega (arith, spelled.fields.0, c.requires.few)
