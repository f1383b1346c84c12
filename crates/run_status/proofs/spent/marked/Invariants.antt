use Rattle.std.proofs.Common.{take}
use Rattle.run_status.specs.Spent.{AreMarked}
use Rattle.run_status.proofs.spent.marked.Given as goal

abbrev pub invariant-loop-post : goal.invariant-loop-post
invariant-loop-post l = AreMarked l.config (take l.post-index l.posts) l.table
