use Rattle.std.proofs.Common.{◌≡◌, ◌<◌, true, false, List, ℕ, length, get_or, sym, ap, ◌∙◌, arith}
use Rattle.tx_pool.specs.Pool.{is_among}
use Rattle.hb_wire.specs.Batches.{batch_of}
use Rattle.hb_wire.specs.declared.items.Item.{Item}
use Rattle.hb_wire.specs.Lists.{item as item_of, listed}
use Rattle.ledger_text.specs.Text.{transactions_of}
use Rattle.ledger_text.proofs.Among.{among_none, among_one, take_all}
use Rattle.ledger_text.proofs.search.stands_in_batches.Goals as goal

pub returns-then-stands_in_batch : goal.returns-then-stands_in_batch
returns-then-stands_in_batch c =
    let list : List Item = listed c.args.rest.now in
    let j : ℕ = c.loop-j.j in
    let x : Item = item_of c.item.result.0 c.item.result.1.now in
    let low : j < c.args.count = omega (arith, c.loop-j-test.true) in
    let is : x ≡ get_or list j x = sym (c.item.ensures list c.requires.list x) in
    let whole = take_all (batch_of c.item.result.1.now) c.batch_len.result c.batch_len.ensures.exact in
    let here : is_among (batch_of c.item.result.1.now) c.args.tx.now ≡ true =
    ap (λ (txs : List (List ℕ)). is_among txs c.args.tx.now) (sym whole) ∙ sym c.stands_in_batch.ensures ∙ c.if-stands_in_batch.true in
    sym (among_one transactions_of list c.args.tx.now j c.args.count x x low c.requires.inside is here)

pub loop-j-preserved : goal.loop-j-preserved
loop-j-preserved c =
    let list : List Item = listed c.args.rest.now in
    let j : ℕ = c.loop-j.j in
    let x : Item = item_of c.item.result.0 c.item.result.1.now in
    let below : j < length list = omega (arith, c.loop-j-test.true, c.requires.inside) in
    let is : x ≡ get_or list j x = sym (c.item.ensures list c.requires.list x) in
    let whole = take_all (batch_of c.item.result.1.now) c.batch_len.result c.batch_len.ensures.exact in
    let here : is_among (batch_of c.item.result.1.now) c.args.tx.now ≡ false =
    ap (λ (txs : List (List ℕ)). is_among txs c.args.tx.now) (sym whole) ∙ sym c.stands_in_batch.ensures ∙ c.if-stands_in_batch.false in
    among_none transactions_of list c.args.tx.now j x x below is c.loop-j.invariant here
