use Rattle.std.proofs.Common.{◌≡◌, ℕ, ◌<◌, ◌≤◌, false}
use Rattle.hb_base.specs.NodeSet.{is_in}
use Rattle.hb_base.proofs.config.are_below.Given as goal

-- no node from n up to this one is in the set
abbrev pub invariant-loop-node : goal.invariant-loop-node
invariant-loop-node l = (other : ℕ) → l.n ≤ other → other < l.node → is_in l.nodes other ≡ false
