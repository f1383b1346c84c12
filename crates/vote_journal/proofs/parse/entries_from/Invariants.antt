use Rattle.std.proofs.Common.{length}
use Rattle.vote_journal.proofs.Walk.{Walks}
use Rattle.vote_journal.proofs.parse.entries_from.Given as goal

abbrev pub invariant-loop-payload : goal.invariant-loop-payload
invariant-loop-payload l = Walks l.bytes l.rest l.entries.items l.total

abbrev pub decreases-loop-payload : goal.decreases-loop-payload
decreases-loop-payload l = length l.rest
