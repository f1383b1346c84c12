use Rattle.std.proofs.Common.{◌≡◌, ◌++◌, take}
use Rattle.std.specs.List.{flat_map}
use Rattle.merkle_branch.specs.Branches.{siblings}
use Rattle.hb_wire.proofs.writing.put_branch.Given as goal

abbrev pub invariant-loop-digest : goal.invariant-loop-digest
invariant-loop-digest l = l.out.items ≡ l.fn.out.items ++ flat_map (λ digest. digest) (take l.digest-index (siblings l.branch))
