use Rattle.hb_wire.proofs.PathLemmas.{Copies}
use Rattle.hb_wire.proofs.fields.branch_of.Given as goal

abbrev pub invariant-loop-level : goal.invariant-loop-level
invariant-loop-level l = Copies l.len l.level l.path l.rest l.digests
