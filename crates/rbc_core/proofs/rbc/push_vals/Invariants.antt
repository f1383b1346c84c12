use Rattle.std.proofs.Common.{◌≡◌, ◌≤◌, ◌+◌, ◌++◌, length}
use Rattle.std.specs.Vec.Iter.{into_iter_items}
use Rattle.hb_rules.specs.Room.{KeepsRoom}
use Rattle.rbc_core.specs.Due.{missing_vals}
use Rattle.rbc_core.proofs.rbc.push_vals.Given as goal

abbrev pub invariant-loop-shard : goal.invariant-loop-shard
invariant-loop-shard l = record {
  target : l.target ≡ length l.yielded;
  split : l.yielded ++ into_iter_items l.shard-iterator ≡ l.fn.shards.items;
  room : length l.fn.shards.items ≤ l.due.spare + l.target;
  kept : KeepsRoom l.initial.due l.due;
  spent : l.initial.due.spare ≤ l.due.spare + l.target;
  votes : l.due.votes ≡ l.initial.due.votes ++ missing_vals l.epoch l.fn.shards.items l.cast l.target;
}
