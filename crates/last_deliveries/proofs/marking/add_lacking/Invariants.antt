use Rattle.std.proofs.Common.{◌≡◌, ◌++◌, filter, take}
use Rattle.last_deliveries.specs.Catching.{lacks}
use Rattle.last_deliveries.proofs.marking.add_lacking.Given as goal

-- those of the front of the list were added
abbrev pub invariant-loop-k : goal.invariant-loop-k
invariant-loop-k l = l.numbers.items ≡ l.fn.numbers.items ++ filter (lacks l.script l.posts l.marks l.node l.actor) (take l.k-index l.list)
