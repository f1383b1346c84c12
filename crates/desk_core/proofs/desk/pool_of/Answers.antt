use Rattle.std.proofs.Common.{◌≡◌, ℕ, List, take, subst, ap, ◌∙◌, arith}
use Rattle.std.proofs.Math.Seq.{take-length}
use Rattle.tx_pool.specs.Calls.{IsPoolOf}
use Rattle.desk_core.proofs.Pooling.{submissions, pooled-submissions}
use Rattle.desk_core.proofs.desk.pool_of.Goals as goal

pub returns : goal.returns
returns c =
    let all : take c.loop-tx.tx-index c.args.submitted.now ≡ c.args.submitted.now =
    ap (λ (k : ℕ). take k c.args.submitted.now) (omega (arith, c.loop-tx-test.false, c.loop-tx.auto.tx-index-end)) ∙ take-length c.args.submitted.now in
    pooled-submissions c.args.submitted.now c.loop-tx.pool
    (subst (λ (txs : List (List ℕ)). IsPoolOf (submissions txs) c.loop-tx.pool) all c.loop-tx.invariant)
