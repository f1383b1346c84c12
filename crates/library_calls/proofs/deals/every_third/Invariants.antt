use Rattle.std.proofs.Common.{◌≡◌, ℕ, ◌*◌, ◌<◌, length, get_or}
use Rattle.coin_deal.specs.declared.others.NodeShare.{NodeShare}
use Rattle.library_calls.proofs.deals.every_third.Given as goal

-- the nodes before i
abbrev pub invariant-loop-i : goal.invariant-loop-i
invariant-loop-i l = record {
  count : length l.known.items ≡ l.i;
  nodes : (k : ℕ) (d : NodeShare) → k < l.i → (get_or l.known.items k d).node ≡ 3 * k;
}
