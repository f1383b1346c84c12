use Rattle.std.proofs.Common.{◌≡◌, ℕ, Bool, List, nat_eq, rules}
use Rattle.std.specs.Bool.{Decides}
use Rattle.std.proofs.lemmas.Bool.Decides.{same_from_decides}
use Rattle.merkle_branch.specs.Branches.{IsBranch, is_branch}
use Rattle.merkle_branch.specs.declared.Branch.{Branch}
use Rattle.merkle_branch.proofs.Tested.{is_branch-Decides}
use Rattle.merkle_branch.proofs.is_branch.Goals as goal

-- the answer of a test that decides it
tested : (root : List ℕ) (n m : ℕ) (leaf : List ℕ) (branch : Branch) (answer : Bool) → Decides answer (IsBranch root n m leaf branch)
    → answer ≡ is_branch root n m leaf branch
tested root n m leaf branch answer decides = same_from_decides answer (is_branch root n m leaf branch) decides (is_branch-Decides root n m leaf branch)

pub returns-then-branch-height-clause-exact : goal.returns-then-branch-height-clause-exact
returns-then-branch-height-clause-exact c = tested c.args.root.now c.args.n c.args.m c.args.leaf.now c.args.branch.now c.eq.result (search rules)

pub returns-else-branch-height-clause-exact : goal.returns-else-branch-height-clause-exact
returns-else-branch-height-clause-exact c =
    tested c.args.root.now c.args.n c.args.m c.args.leaf.now c.args.branch.now (nat_eq c.args.branch.now.len c.height.result) (search rules)
