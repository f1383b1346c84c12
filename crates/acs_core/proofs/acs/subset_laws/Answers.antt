use Rattle.acs_core.proofs.Standing.{Stands-part}
use Rattle.acs_core.proofs.acs.subset_laws.Goals as goal

pub returns : goal.returns
returns c = record { part = Stands-part }
