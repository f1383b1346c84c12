use Rattle.std.proofs.Common.{take}
use Rattle.aba_world.specs.Marked.{AreMarked}
use Rattle.aba_world.proofs.marks.marked.Given as goal

abbrev pub invariant-loop-post : goal.invariant-loop-post
invariant-loop-post l = AreMarked l.config l.kind (take l.post-index l.posts) l.table
