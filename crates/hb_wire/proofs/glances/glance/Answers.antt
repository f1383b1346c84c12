use Rattle.std.proofs.Common.{arith}
use Rattle.hb_wire.proofs.VoteLemmas.{none_short}
use Rattle.hb_wire.proofs.glances.glance.Goals as goal

pub returns-in_default-clause-none : goal.returns-in_default-clause-none
returns-in_default-clause-none c = none_short c.args.n c.args.version c.args.bytes.now (omega arith)
