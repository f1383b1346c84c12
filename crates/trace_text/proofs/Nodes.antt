-- The number that stands for a set of nodes.
use Rattle.std.proofs.Common.{ℕ, zero, suc, ◌+◌, ◌<◌, ◌^◌, Bool, true, false, if◌then◌else◌, arith}
use Rattle.std.proofs.Math.Nat.{two-pow-succ}
use Rattle.trace_text.specs.Text.{nodes_number}

-- one power of two more
more_few : (n sum : ℕ) (b : Bool) → sum < 2 ^ n → sum + (if b then 2 ^ n else 0) < 2 ^ suc n
more_few n sum true below = omega (arith, below, two-pow-succ n)
more_few n sum false below = omega (arith, below, two-pow-succ n)

pub nodes_few : (n : ℕ) (test : ℕ → Bool) → nodes_number n test < 2 ^ n
nodes_few zero test = omega arith
nodes_few (suc n) test = more_few n (nodes_number n test) (test n) (nodes_few n test)
