use Rattle.std.proofs.Common.{◌<◌, List, ℕ, [], ◌++◌, length, get_or, take, refl, ap, arith, ◌≡◌, ◌+◌, ◌∷◌, subst, sym, ◌∙◌, append_assoc, append-nil}
use Rattle.std.proofs.lemmas.List.{take_more}
use Rattle.std.proofs.lemmas.Result.{err_from_is_err_and}
use Rattle.hb_wire.specs.Batches.{batch_of}
use Rattle.ledger_text.specs.Places.{before_batch}
use Rattle.ledger_text.specs.Seen.{Remembers}
use Rattle.ledger_text.specs.Text.{alone, in_order, tx_text}
use Rattle.ledger_text.proofs.Among.{take_all}
use Rattle.ledger_text.proofs.Batches.{all_alone}
use Rattle.ledger_text.proofs.Order.{writes_as, writes_nothing, writes_on, writes_stop, order_step, order_split}
use Rattle.ledger_text.proofs.ledger.put_transactions.Goals as goal

pub put_transaction-requires-clause-batch : goal.put_transaction-requires-clause-batch
put_transaction-requires-clause-batch g c = (c.batch_len-t-end.ensures.spelled (omega (arith, c.loop-t-test.true))).0

pub returns-in_err-put_transaction-clause-text : goal.returns-in_err-put_transaction-clause-text
returns-in_err-put_transaction-clause-text g c =
    let p = err_from_is_err_and c.from_residual.result c.from_residual.ensures.1 in
    let batch : List (List ℕ) = batch_of c.args.value.now in
    let before : List (List ℕ) = before_batch (g.L.Ledger.lists c.args.ledger.now) c.args.spot in
    let t : ℕ = c.loop-t.t in
    let x : List ℕ = get_or batch t [] in
    let inside : t < length batch = omega (arith, c.batch_len-t-end.ensures.exact, c.loop-t-test.true) in
    rw p.1 (writes_stop _ (order_split tx_text alone before batch t x [] inside refl) c.loop-t.invariant.text
    (writes_as (ap (λ (txs : List (List ℕ)). tx_text (before ++ txs) x) (all_alone (take t batch))) c.in_err-put_transaction.ensures.text))

pub loop-t-preserved : goal.loop-t-preserved
loop-t-preserved g c =
    let batch : List (List ℕ) = batch_of c.args.value.now in
    let before : List (List ℕ) = before_batch (g.L.Ledger.lists c.args.ledger.now) c.args.spot in
    let t : ℕ = c.loop-t.t in
    let x : List ℕ = get_or batch t [] in
    let inside : t < length batch = omega (arith, c.batch_len-t-end.ensures.exact, c.loop-t-test.true) in
    let more : take (t + 1) batch ≡ take t batch ++ x ∷ [] = take_more batch t [] inside in
    record {
      text = writes_on (order_step tx_text alone before batch t x [] inside refl) c.loop-t.invariant.text
          (writes_as (ap (λ (txs : List (List ℕ)). tx_text (before ++ txs) x) (all_alone (take t batch))) c.in_ok-put_transaction.ensures.text);
      seen = subst (λ (txs : List (List ℕ)). Remembers c.put_transaction.new.seen txs)
          (append_assoc before (take t batch) (x ∷ []) ∙ ap (λ (txs : List (List ℕ)). before ++ txs) (sym more)) c.in_ok-put_transaction.ensures.seen;
    }

pub loop-t-init : goal.loop-t-init
loop-t-init g c =
    let before : List (List ℕ) = before_batch (g.L.Ledger.lists c.args.ledger.now) c.args.spot in
    record {
      text = writes_nothing _ _ tt;
      seen = subst (λ (txs : List (List ℕ)). Remembers c.args.seen.now txs) (sym (append-nil before)) c.requires.seen;
    }

pub returns-clause-text : goal.returns-clause-text
returns-clause-text g c =
    let batch : List (List ℕ) = batch_of c.args.value.now in
    let before : List (List ℕ) = before_batch (g.L.Ledger.lists c.args.ledger.now) c.args.spot in
    let all : c.loop-t.t ≡ length batch = omega (arith, c.batch_len-t-end.ensures.exact, c.loop-t-test.false, c.loop-t.auto.t-end) in
    writes_as (ap (in_order tx_text alone before) (sym (take_all batch c.loop-t.t all))) c.loop-t.invariant.text

pub returns-clause-seen : goal.returns-clause-seen
returns-clause-seen g c =
    let batch : List (List ℕ) = batch_of c.args.value.now in
    let before : List (List ℕ) = before_batch (g.L.Ledger.lists c.args.ledger.now) c.args.spot in
    let all : c.loop-t.t ≡ length batch = omega (arith, c.batch_len-t-end.ensures.exact, c.loop-t-test.false, c.loop-t.auto.t-end) in
    subst (λ (txs : List (List ℕ)). Remembers c.loop-t.seen (before ++ txs)) (take_all batch c.loop-t.t all) c.loop-t.invariant.seen
