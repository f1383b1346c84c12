use Rattle.std.proofs.Common.{◌≡◌, All, take}
use Rattle.actor_cell.specs.Passes.{names_of, IsNewPut}
use Rattle.actor_cell.proofs.passes.split_each.Given as goal

-- the mailboxes so far have a new pass each
abbrev pub invariant-loop-place : goal.invariant-loop-place
invariant-loop-place l = record {
  firsts : names_of l.firsts.items ≡ l.boxes;
  at : names_of l.puts.items ≡ take l.place l.boxes;
  new : All IsNewPut l.puts.items;
}
