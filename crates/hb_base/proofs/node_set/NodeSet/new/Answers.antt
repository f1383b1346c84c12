use Rattle.std.proofs.Common.{refl}
use Rattle.hb_base.specs.Words.{marks_of}
use Rattle.hb_base.proofs.Words.{none}
use Rattle.hb_base.proofs.node_set.NodeSet.new.Goals as goal

pub returns-clause-exact : goal.returns-clause-exact
unfolding marks_of
returns-clause-exact c = refl

pub returns-clause-members : goal.returns-clause-members
returns-clause-members c = none 16
