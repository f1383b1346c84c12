use Rattle.merkle_branch.proofs.Strings.{leaf_binds}
use Rattle.merkle_branch.proofs.TreeBinding.{trees_bind}
use Rattle.merkle_branch.proofs.laws.trees_bind.Goals as goal

pub returns : goal.returns
returns c = record { leaves = trees_bind; leaf = leaf_binds }
