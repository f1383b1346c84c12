use Rattle.std.proofs.Common.{◌≡◌, ◌+◌, ◌∷◌, ◌++◌, [], length}
use Rattle.actor_cell.specs.Making.{AreNew}
use Rattle.actor_cell.proofs.boxes.Making.add_node.Given as goal

-- so many more are made
abbrev pub invariant-loop : goal.invariant-loop
invariant-loop l = record {
  new : AreNew l.self;
  count : length l.self.boxes.items ≡ length l.fn.self.boxes.items + l.counter;
  firsts : l.self.firsts.items ≡ l.fn.self.firsts.items ++ length l.fn.self.boxes.items ∷ [];
}
