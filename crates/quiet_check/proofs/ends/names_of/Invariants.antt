use Rattle.std.proofs.Common.{◌≡◌, map, [], ◌+◌, if◌then◌else◌}
use Rattle.std.specs.List.{flat_map, range_with_len}
use Rattle.hb_base.specs.NodeSet.{is_in}
use Rattle.quiet_check.proofs.ends.names_of.Given as goal

-- the actors of the nodes before this one are there
abbrev pub invariant-loop-node : goal.invariant-loop-node
invariant-loop-node l =
    l.names.items ≡ flat_map (λ i. if is_in l.config.liars i then [] else map (λ x. (i, x)) (range_with_len 0 (l.config.n + 1))) (range_with_len 0 l.node)
