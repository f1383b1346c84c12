use Rattle.std.proofs.Common.{◌≡◌, ℕ, ◌+◌, ◌*◌, ◌<◌, length, take, get_or}
use Rattle.merkle_branch.specs.Digests.{no_digest, inner_digest}
use Rattle.merkle_branch.proofs.tree.all_nodes.Given as goal

-- the leaves stand as they did, and behind them the parents so far
abbrev pub invariant-loop-i : goal.invariant-loop-i
invariant-loop-i l = record {
  size : length l.nodes ≡ 31;
  leaves : take l.width l.nodes ≡ take l.width l.digests;
  parents : (k : ℕ) → k < l.i → get_or l.nodes (l.width + k) no_digest ≡ inner_digest (get_or l.nodes (2 * k) no_digest) (get_or l.nodes (2 * k + 1) no_digest);
}
