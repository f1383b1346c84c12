use Rattle.std.proofs.Common.{◌≡◌, ℕ, take}
use Rattle.hb_base.specs.NodeSet.{is_in}
use Rattle.observer.specs.Agreeing.{is_closer}
use Rattle.observer.specs.Beside.{arriving}
use Rattle.observer.proofs.agreeing.closers.Given as goal

-- the nodes that have by what comes of the first posts
abbrev pub invariant-loop-k : goal.invariant-loop-k
invariant-loop-k l = (i : ℕ) → is_in l.nodes i ≡ is_closer l.report.config (arriving l.report.script.links.items l.node 0 (take l.k l.report.history.items)) l.e i
