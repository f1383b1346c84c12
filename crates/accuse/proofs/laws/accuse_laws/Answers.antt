use Rattle.accuse.proofs.Liars.{only_liars}
use Rattle.accuse.proofs.laws.accuse_laws.Goals as goal

pub returns : goal.returns
returns c = only_liars
