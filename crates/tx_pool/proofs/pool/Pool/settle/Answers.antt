use Rattle.std.proofs.Common.{◌≡◌, ℕ, List, ◌||◌, sym, ap, ◌∙◌}
use Rattle.std.proofs.lemmas.Result.{err_from_is_err_and}
use Rattle.tx_pool.specs.Pool.{PoolView, is_among}
use Rattle.tx_pool.specs.Standings.{settled_of}
use Rattle.tx_pool.proofs.Tables.{is_among-settled_of}
use Rattle.tx_pool.proofs.Tied.{tied_settle, settled_of-stays, filter_is_without, settled_now}
use Rattle.tx_pool.proofs.Told.{told_settle}
use Rattle.tx_pool.proofs.pool.Pool.settle.Goals as goal

pub returns-in_err-settle-clause-err : goal.returns-in_err-settle-clause-err
returns-in_err-settle-clause-err c =
    let same : settled_of c.settle.new.self ≡ settled_of c.self.inside.standings =
    settled_of-stays c.self.inside.pooled.items c.self.inside.standings c.settle.new.self c.self.invariant c.in_err-settle.ensures.err in
    let view : List (List ℕ) → PoolView = λ settled. record { pooled = c.self.inside.pooled.items; settled = settled } in
    let failed = err_from_is_err_and c.from_residual.result c.from_residual.ensures.1 in
    rw failed.1 (ap view same ∙ c.self.view_is)

pub invariant_of-self-2 : goal.invariant_of-self-2
invariant_of-self-2 c = rw c.keep_pooled.ensures
    (tied_settle c.self.inside.pooled.items c.self.inside.standings c.settle.new.self c.args.txs.now c.self.invariant c.in_ok-settle.ensures.ok)

pub returns-clause-pooled : goal.returns-clause-pooled
returns-clause-pooled c =
    rw (c.keep_pooled.ensures, ← c.self.view_is)
    (filter_is_without c.self.inside.pooled.items c.self.inside.standings c.settle.new.self c.args.txs.now c.self.invariant c.in_ok-settle.ensures.ok)

pub returns-clause-settled : goal.returns-clause-settled
returns-clause-settled c =
    rw (← c.self.view_is) (λ tx. is_among-settled_of c.settle.new.self tx
    ∙ settled_now c.self.inside.standings c.settle.new.self c.args.txs.now tx c.in_ok-settle.ensures.ok
    ∙ ap (λ b. b || is_among c.args.txs.now tx) (sym (is_among-settled_of c.self.inside.standings tx)))

pub returns-clause-told : goal.returns-clause-told
returns-clause-told c calls is_of = told_settle calls c.args.txs.now c.args.self.now _ is_of (returns-clause-pooled c) (returns-clause-settled c)
