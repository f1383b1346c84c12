use Rattle.std.proofs.Common.{◌≡◌, List, ℕ, [], ◌∷◌, ◌++◌, take, true, false, subst, sym, ap, ◌∙◌}
use Rattle.tx_pool.specs.Pool.{is_among}
use Rattle.hb_wire.specs.Batches.{batch_of}
use Rattle.ledger_text.specs.Places.{before_batch}
use Rattle.ledger_text.specs.Text.{tx_text}
use Rattle.ledger_text.specs.Seen.{Remembers}
use Rattle.ledger_text.proofs.Batches.{tx_short, text_known, text_new}
use Rattle.ledger_text.proofs.Order.{writes_as, writes_nothing}
use Rattle.ledger_text.proofs.Remembered.{on_ok, remembers_known, remembers_new}
use Rattle.ledger_text.proofs.ledger.put_transaction.Goals as goal

pub put_tx-requires : goal.put_tx-requires
put_tx-requires g c =
    tx_short (batch_of c.args.value.now) c.args.t c.batch_at-tx.result.now c.requires.batch.fit c.requires.inside (c.batch_at-tx.ensures [])

pub returns-then-is_known-clause-text : goal.returns-then-is_known-clause-text
returns-then-is_known-clause-text g c =
    let before : List (List ℕ) = before_batch (g.L.Ledger.lists c.args.ledger.now) c.args.spot ++ take c.args.t (batch_of c.args.value.now) in
    let known : is_among before c.batch_at-tx.result.now ≡ true = sym c.is_known.ensures ∙ c.if-is_known.true in
    writes_as (ap (tx_text before) (c.batch_at-tx.ensures []) ∙ text_known before c.batch_at-tx.result.now known)
    (writes_nothing _ _ tt)

pub returns-then-is_known-clause-seen : goal.returns-then-is_known-clause-seen
returns-then-is_known-clause-seen g c =
    let before : List (List ℕ) = before_batch (g.L.Ledger.lists c.args.ledger.now) c.args.spot ++ take c.args.t (batch_of c.args.value.now) in
    let known : is_among before c.batch_at-tx.result.now ≡ true = sym c.is_known.ensures ∙ c.if-is_known.true in
    subst (λ (tx : List ℕ). Remembers c.args.seen.now (before ++ tx ∷ [])) (sym (c.batch_at-tx.ensures []))
    (remembers_known c.args.seen.now before c.batch_at-tx.result.now c.requires.seen known)

pub returns-clause-text : goal.returns-clause-text
returns-clause-text g c =
    let before : List (List ℕ) = before_batch (g.L.Ledger.lists c.args.ledger.now) c.args.spot ++ take c.args.t (batch_of c.args.value.now) in
    let new : is_among before c.batch_at-tx.result.now ≡ false = sym c.is_known.ensures ∙ c.if-is_known.false in
    writes_as (ap (tx_text before) (c.batch_at-tx.ensures []) ∙ text_new before c.batch_at-tx.result.now new) c.put_tx.ensures

pub returns-clause-seen : goal.returns-clause-seen
returns-clause-seen g c =
    let before : List (List ℕ) = before_batch (g.L.Ledger.lists c.args.ledger.now) c.args.spot ++ take c.args.t (batch_of c.args.value.now) in
    on_ok c.put_tx.result _
    (subst (λ (tx : List ℕ). Remembers c.add.new.self (before ++ tx ∷ [])) (sym (c.batch_at-tx.ensures []))
    (remembers_new c.args.seen.now c.add.new.self before c.batch_at-tx.result.now c.requires.seen c.add.ensures.chained c.add.ensures.txs))
