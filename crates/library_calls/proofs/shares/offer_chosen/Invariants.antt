use Rattle.std.proofs.Common.{◌≡◌, ◌≤◌}
use Rattle.library_calls.proofs.shares.offer_chosen.Given as goal

-- the number of nodes stays, and no more shares are counted than nodes were gone through
abbrev pub invariant-loop-i : goal.invariant-loop-i
invariant-loop-i g l = record { nodes : l.shares.n ≡ l.n; counted : l.count ≤ l.i }
