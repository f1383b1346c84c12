use Rattle.std.proofs.Common.{◌≡◌, ◌+◌, ◌++◌, length}
use Rattle.std.specs.Vec.Iter.{into_iter_items}
use Rattle.hb_rules.specs.Room.{KeepsRoom}
use Rattle.epoch_core.proofs.pending.push_all.Given as goal

abbrev pub invariant-loop-vote : goal.invariant-loop-vote
invariant-loop-vote l = record {
  split : l.yielded ++ into_iter_items l.vote-iterator ≡ l.fn.votes.items;
  votes : l.due.votes ≡ l.initial.due.votes ++ l.yielded;
  room : l.due.spare + length l.yielded ≡ l.initial.due.spare;
  kept : KeepsRoom l.initial.due l.due;
}
