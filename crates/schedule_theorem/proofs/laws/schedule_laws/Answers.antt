use Rattle.schedule_theorem.proofs.Steps.{always_legal}
use Rattle.schedule_theorem.proofs.laws.schedule_laws.Goals as goal

pub returns : goal.returns
returns c = record { legal = always_legal }
