use Rattle.merkle_branch.proofs.Binding.{branches_bind}
use Rattle.merkle_branch.proofs.laws.branches_bind.Goals as goal

pub returns : goal.returns
returns c = branches_bind
