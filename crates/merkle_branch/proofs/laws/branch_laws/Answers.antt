use Rattle.merkle_branch.proofs.BranchLemmas.{branch_valid}
use Rattle.merkle_branch.proofs.Paths.{root_long, branch_path}
use Rattle.merkle_branch.proofs.Strings.{branch_strings}
use Rattle.merkle_branch.proofs.Tested.{is_branch-Decides}
use Rattle.merkle_branch.proofs.laws.branch_laws.Goals as goal

pub returns : goal.returns
returns c = record { test = is_branch-Decides; root = root_long; path = branch_path; valid = λ leaves m. branch_valid leaves m; strings = branch_strings }
