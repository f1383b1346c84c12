use Rattle.std.proofs.Common.{◌≡◌, ◌++◌, length}
use Rattle.std.specs.List.{concat}
use Rattle.vote_journal.specs.Text.{entries_in}
use Rattle.vote_journal.proofs.fold.gather.Given as goal

abbrev pub invariant-loop-payload : goal.invariant-loop-payload
invariant-loop-payload l = l.text.items ++ concat (entries_in (length l.rest) l.rest) ≡ concat (entries_in (length l.bytes) l.bytes)

abbrev pub decreases-loop-payload : goal.decreases-loop-payload
decreases-loop-payload l = length l.rest
