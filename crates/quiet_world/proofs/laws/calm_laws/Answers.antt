use Rattle.quiet_world.proofs.Epochs.{epochs_end}
use Rattle.quiet_world.proofs.Statuses.{spared_status}
use Rattle.quiet_world.proofs.laws.calm_laws.Goals as goal

pub returns-clause-epochs : goal.returns-clause-epochs
returns-clause-epochs c = epochs_end

pub returns-clause-status : goal.returns-clause-status
returns-clause-status c = spared_status
