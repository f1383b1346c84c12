use Rattle.quiet_world.proofs.Theorems.{each_completed}
use Rattle.quiet_world.proofs.laws.quiet_laws.Goals as goal

pub returns : goal.returns
returns c = record { completed = each_completed }
