use Rattle.std.proofs.Common.{sym}
use Rattle.hb_wire.proofs.PathLemmas.{length-path}
use Rattle.hb_wire.proofs.lengths.branch_len.Goals as goal

pub returns-clause-exact : goal.returns-clause-exact
returns-clause-exact c = sym (length-path c.args.n c.args.branch.now c.requires)
