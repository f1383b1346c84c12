use Rattle.std.proofs.Common.{◌≡◌, bytes_eq, length}
use Rattle.tx_pool.proofs.marks.are_same.Given as goal

abbrev pub invariant-loop-front : goal.invariant-loop-front
invariant-loop-front l = bytes_eq l.left l.right ≡ bytes_eq l.fn.left l.fn.right

abbrev pub decreases-loop-front : goal.decreases-loop-front
decreases-loop-front l = length l.left
