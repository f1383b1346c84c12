use Rattle.aba_progress.proofs.Theorems.{all_end}
use Rattle.aba_progress.proofs.laws.progress_laws.Goals as goal

pub returns : goal.returns
returns c = record { rounds = all_end }
