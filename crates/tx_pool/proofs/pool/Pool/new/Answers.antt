use Rattle.std.proofs.Common.{ℕ, List, [], refl, ap}
use Rattle.tx_pool.specs.Pool.{PoolView}
use Rattle.tx_pool.proofs.Tables.{settled_of-none}
use Rattle.tx_pool.proofs.Tied.{tied_none}
use Rattle.tx_pool.proofs.pool.Pool.new.Goals as goal

pub invariant_of-result : goal.invariant_of-result
invariant_of-result c = rw (c.new.ensures.items, c.new-2.ensures) tied_none

pub returns-clause-empty : goal.returns-clause-empty
returns-clause-empty c =
    let view : List (List ℕ) → PoolView = λ settled. record { pooled = []; settled = settled } in
    rw (c.new.ensures.items, c.new-2.ensures) (ap view settled_of-none)

pub returns-clause-told : goal.returns-clause-told
returns-clause-told c = rw (returns-clause-empty c) (record { pooled = refl; settled = λ tx. refl })
