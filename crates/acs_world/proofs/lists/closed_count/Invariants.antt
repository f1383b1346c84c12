use Rattle.std.proofs.Common.{◌≡◌, ◌≤◌, length, take}
use Rattle.hb_rules.specs.Ledger.{ledger}
use Rattle.acs_world.proofs.lists.closed_count.Given as goal

-- the lists of the ledger so far
abbrev pub invariant-loop-number : goal.invariant-loop-number
invariant-loop-number l = record {
  lists : l.count ≡ length (ledger l.config (take l.number l.posts) l.node);
  few : l.count ≤ l.number;
}
