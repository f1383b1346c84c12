use Rattle.std.proofs.Common.{take}
use Rattle.run_status.specs.Closers.{AreClosers}
use Rattle.run_status.proofs.closings.closers.Given as goal

abbrev pub invariant-loop-post : goal.invariant-loop-post
invariant-loop-post l = AreClosers l.config (take l.post-index l.posts) l.nodes
