use Rattle.std.proofs.Common.{◌≡◌, ◌++◌, replicate}
use Rattle.rs_shards.specs.Frame.{with_length}
use Rattle.rs_shards.proofs.framed.Given as goal

abbrev pub invariant-loop : goal.invariant-loop
invariant-loop l = l.frame.items ≡ with_length l.value ++ replicate l.counter 0
