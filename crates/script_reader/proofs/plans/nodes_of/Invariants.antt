use Rattle.std.proofs.Common.{◌≡◌, ℕ, ◌<◌, true, drop}
use Rattle.hb_base.specs.NodeSet.{is_in}
use Rattle.net_script.specs.Sound.{nodes_of, with_nodes_of}
use Rattle.script_reader.specs.Bounds.{HasAtMost}
use Rattle.script_reader.proofs.plans.nodes_of.Given as goal

-- the nodes so far, with those of the liars that are left, are all
abbrev pub invariant-loop-liar : goal.invariant-loop-liar
invariant-loop-liar l = record {
  exact : with_nodes_of l.nodes (drop l.liar-index l.liars) ≡ nodes_of l.liars;
  known : (node : ℕ) → is_in l.nodes node ≡ true → node < l.n;
  few : HasAtMost l.liar-index l.nodes;
}
