use Rattle.std.proofs.Common.{◌≡◌, map, take}
use Rattle.hb_rules.specs.declared.report.End.{End}
use Rattle.quiet_check.proofs.ends.are_named.Given as goal

-- the ends before this one are named
abbrev pub invariant-loop-place : goal.invariant-loop-place
invariant-loop-place l = map (λ (end : End). (end.node, end.actor)) (take l.place l.ends) ≡ take l.place l.names
