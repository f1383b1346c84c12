use Rattle.std.proofs.Common.{◌≡◌, ◌/◌, length}
use Rattle.tx_pool.specs.Marks.{stir_words}
use Rattle.tx_pool.proofs.marks.mark_of.Given as goal

abbrev pub invariant-loop-front : goal.invariant-loop-front
invariant-loop-front l = stir_words (length l.rest / 8) l.mark l.rest ≡ stir_words (length l.tx / 8) 0 l.tx

abbrev pub decreases-loop-front : goal.decreases-loop-front
decreases-loop-front l = length l.rest
