use Rattle.std.proofs.Common.{take}
use Rattle.rbc_world.specs.Claimed.{AreEntries}
use Rattle.rbc_world.proofs.entries.first_claims.Given as goal

abbrev pub invariant-loop-number : goal.invariant-loop-number
invariant-loop-number l = AreEntries l.config l.kind l.posts (take l.number l.posts) l.table
