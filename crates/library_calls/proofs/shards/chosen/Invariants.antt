use Rattle.std.proofs.Common.{◌≡◌, ◌≢◌, ◌<◌, ◌^◌, length, Some}
use Rattle.std.specs.List.{All, AllPairs, slice_get}
use Rattle.library_calls.proofs.shards.chosen.Given as goal

-- distinct, with indices below i, short, and each a shard at its index
abbrev pub invariant-loop-i : goal.invariant-loop-i
invariant-loop-i l = record {
  distinct : AllPairs (λ x y. x.0 ≢ y.0) l.got.items;
  below : All (λ x. x.0 < l.i) l.got.items;
  short : All (λ x. length x.1 < 2 ^ 32) l.got.items;
  taken : All (λ x. slice_get l.shards x.0 ≡ Some x.1) l.got.items;
}
