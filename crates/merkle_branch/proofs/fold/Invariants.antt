use Rattle.std.proofs.Common.{◌≡◌, drop}
use Rattle.merkle_branch.specs.Branches.{folded}
use Rattle.merkle_branch.proofs.fold.Given as goal

-- what is left folds to what all of it does
abbrev pub invariant-loop-sibling : goal.invariant-loop-sibling
invariant-loop-sibling l = folded l.position l.digest (drop l.sibling-index l.siblings) ≡ folded l.fn.position l.fn.digest l.fn.siblings
