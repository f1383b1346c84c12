use Rattle.std.proofs.Common.{◌^◌, ◌≤◌, arith}
use Rattle.std.proofs.Math.Nat.{pow-le-pow_right}
use Rattle.merkle_branch.proofs.tree.width_of.Goals as goal

pub returns-clause-small : goal.returns-clause-small
returns-clause-small c = let small : 2 ^ c.args.height ≤ 2 ^ 4 = pow-le-pow_right (omega arith) c.requires in omega arith
