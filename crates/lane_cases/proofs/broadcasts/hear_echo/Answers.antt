use Rattle.std.proofs.Common.{length, ap, arith}
use Rattle.merkle_branch.proofs.LeavesLemmas.{length-leaf_digests_from}
use Rattle.lane_cases.proofs.broadcasts.hear_echo.Goals as goal

pub branch-branch-requires : goal.branch-branch-requires
branch-branch-requires c =
    let size = ap (λ xs. length xs) c.requires.tree in
    omega (arith, size, length-leaf_digests_from 0 c.args.shards.now)
