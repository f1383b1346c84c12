use Rattle.std.proofs.Common.{◌≡◌, ◌+◌, ◌∷◌, [], map, get_or}
use Rattle.std.specs.List.{range_with_len}
use Rattle.gf_field.specs.Polynomial.{polynomial_at}
use Rattle.merkle_branch.specs.Digests.{leaf_digests}
use Rattle.coin_deal.proofs.leaves.leaves_of.Given as goal

-- the leaves of the nodes below m
abbrev pub invariant-loop-m : goal.invariant-loop-m
invariant-loop-m l = l.leaves ≡ leaf_digests (map (λ m. polynomial_at l.coefficients (m + 1) ∷ get_or l.salts m []) (range_with_len 0 l.m))
