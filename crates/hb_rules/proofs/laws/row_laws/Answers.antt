use Rattle.hb_rules.proofs.Rows.{owed_by_epoch, owed_by_both, idle-epoch}
use Rattle.hb_rules.proofs.Within.{IsPart-wider}
use Rattle.hb_rules.proofs.laws.row_laws.Goals as goal

pub returns-clause-by_epoch : goal.returns-clause-by_epoch
returns-clause-by_epoch c = owed_by_epoch

pub returns-clause-by_both : goal.returns-clause-by_both
returns-clause-by_both c = owed_by_both

pub returns-clause-idle : goal.returns-clause-idle
returns-clause-idle c = idle-epoch

pub returns-clause-wider : goal.returns-clause-wider
returns-clause-wider c = IsPart-wider
