use Rattle.std.proofs.Common.{◌≡◌, ◌++◌, map}
use Rattle.std.specs.List.{range_with_len}
use Rattle.quiet_check.proofs.ends.add_node.Given as goal

-- the actors before this one are there
abbrev pub invariant-loop-actor : goal.invariant-loop-actor
invariant-loop-actor l = l.names.items ≡ l.initial.names.items ++ map (λ x. (l.fn.node, x)) (range_with_len 0 l.actor)
