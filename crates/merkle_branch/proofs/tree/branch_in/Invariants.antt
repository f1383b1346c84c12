use Rattle.std.proofs.Common.{take}
use Rattle.merkle_branch.proofs.Climbing.{Climbs}
use Rattle.merkle_branch.proofs.tree.branch_in.Given as goal

abbrev pub invariant-loop-level : goal.invariant-loop-level
invariant-loop-level l = Climbs (take l.fn._count l.nodes) l.fn.height l.fn.m l.level l.start l.width l.position l.digests
