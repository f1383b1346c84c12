use Rattle.std.proofs.Common.{◌≢◌, ◌<◌, ◌^◌, length}
use Rattle.std.specs.List.{All, AllPairs}
use Rattle.library_calls.proofs.liars.vals.shards_from.Given as goal

-- distinct, of nodes below this one, and short
abbrev pub invariant-loop-node : goal.invariant-loop-node
invariant-loop-node l = record {
  distinct : AllPairs (λ x y. x.0 ≢ y.0) l.got.items;
  below : All (λ x. x.0 < l.node) l.got.items;
  short : All (λ x. length x.1 < 2 ^ 32) l.got.items;
}
