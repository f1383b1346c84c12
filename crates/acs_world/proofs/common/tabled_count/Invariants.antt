use Rattle.std.proofs.Common.{◌≡◌, ◌≤◌}
use Rattle.hb_base.specs.Counting.{count_nodes}
use Rattle.acs_world.specs.Firsts.{has_closed}
use Rattle.acs_world.proofs.common.tabled_count.Given as goal

-- the epochs so far
abbrev pub invariant-loop-epoch : goal.invariant-loop-epoch
invariant-loop-epoch l = record {
  counted : l.count ≡ count_nodes l.epoch (has_closed l.config l.posts l.table l.node);
  few : l.count ≤ l.epoch;
}
