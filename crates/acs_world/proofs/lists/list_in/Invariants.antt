use Rattle.std.proofs.Common.{◌≡◌, ◌≤◌, length, take}
use Rattle.acs_world.specs.Lists.{lists_of}
use Rattle.acs_world.proofs.lists.list_in.Given as goal

-- the lists of the epoch so far
abbrev pub invariant-loop-number : goal.invariant-loop-number
invariant-loop-number l = record {
  lists : l.count ≡ length (lists_of l.config l.node l.epoch (take l.number l.posts));
  few : l.count ≤ l.number;
  short : l.count ≤ l.place;
}
