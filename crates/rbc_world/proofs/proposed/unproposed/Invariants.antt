use Rattle.std.proofs.Common.{take}
use Rattle.rbc_world.specs.Claimed.{AreLeft}
use Rattle.rbc_world.proofs.proposed.unproposed.Given as goal

abbrev pub invariant-loop-post : goal.invariant-loop-post
invariant-loop-post l = AreLeft l.config l.posts (take l.post-index l.posts) l.fn.table l.left
