use Rattle.std.proofs.Common.{◌≡◌, ◌+◌, ◌<◌, List, ℕ, ◌++◌, length, get_or, subst, sym, ap, ◌∙◌, arith, append_assoc, append-nil}
use Rattle.std.specs.List.{flat_map}
use Rattle.std.proofs.lemmas.Result.{err_from_is_err_and}
use Rattle.hb_wire.specs.declared.items.Item.{Item}
use Rattle.hb_wire.specs.Lists.{item as item_of, listed}
use Rattle.ledger_text.specs.Places.{in_lists, in_batches}
use Rattle.ledger_text.specs.Seen.{Remembers}
use Rattle.ledger_text.specs.Text.{in_order, item_text, transactions_of}
use Rattle.ledger_text.proofs.Among.{take_all}
use Rattle.ledger_text.proofs.Order.{writes_as, writes_nothing, writes_on, writes_stop, order_step, order_split, each_step}
use Rattle.ledger_text.proofs.ledger.put_batches.Goals as goal

pub put_value-requires-clause-spot : goal.put_value-requires-clause-spot
put_value-requires-clause-spot g c =
    let list : List Item = listed c.args.spot.rest.now in
    let count = c.count_of-index-end.ensures list c.requires.spot.list in
    record { place = c.requires.spot.place; list = c.requires.spot.list; index = omega (arith, count, c.loop-index-test.true) }

pub returns-in_err-put_value-clause-text : goal.returns-in_err-put_value-clause-text
returns-in_err-put_value-clause-text g c =
    let p = err_from_is_err_and c.from_residual.result c.from_residual.ensures.1 in
    let list : List Item = listed c.args.spot.rest.now in
    let count = c.count_of-index-end.ensures list c.requires.spot.list in
    let index : ℕ = c.loop-index.index in
    let x : Item = item_of c.item-lane.result.0 c.item-lane.result.1.now in
    let inside : index < length list = omega (arith, count, c.loop-index-test.true) in
    let is : x ≡ get_or list index x = sym (c.item-lane.ensures list c.requires.spot.list x) in
    let before : List (List ℕ) = in_lists (g.L.Ledger.lists c.args.ledger.now) c.args.spot.place in
    rw p.1 (writes_stop _ (order_split item_text transactions_of before list index x x inside is) c.loop-index.invariant.text c.in_err-put_value.ensures.text)

pub loop-index-preserved : goal.loop-index-preserved
loop-index-preserved g c =
    let list : List Item = listed c.args.spot.rest.now in
    let count = c.count_of-index-end.ensures list c.requires.spot.list in
    let index : ℕ = c.loop-index.index in
    let x : Item = item_of c.item-lane.result.0 c.item-lane.result.1.now in
    let inside : index < length list = omega (arith, count, c.loop-index-test.true) in
    let is : x ≡ get_or list index x = sym (c.item-lane.ensures list c.requires.spot.list x) in
    let before : List (List ℕ) = in_lists (g.L.Ledger.lists c.args.ledger.now) c.args.spot.place in
    let so_far : List (List ℕ) = in_batches c.args.spot.rest.now index in
    let more : in_batches c.args.spot.rest.now (index + 1) ≡ so_far ++ transactions_of x = each_step transactions_of list index x x inside is in
    record {
      text = writes_on (order_step item_text transactions_of before list index x x inside is) c.loop-index.invariant.text c.in_ok-put_value.ensures.text;
      seen = subst (λ (txs : List (List ℕ)). Remembers c.put_value.new.seen txs)
          (append_assoc before so_far (transactions_of x) ∙ ap (λ (txs : List (List ℕ)). before ++ txs) (sym more)) c.in_ok-put_value.ensures.seen;
    }

pub loop-index-init : goal.loop-index-init
loop-index-init g c =
    let before : List (List ℕ) = in_lists (g.L.Ledger.lists c.args.ledger.now) c.args.spot.place in
    record {
      text = writes_nothing _ _ tt;
      seen = subst (λ (txs : List (List ℕ)). Remembers c.args.seen.now txs) (sym (append-nil before)) c.requires.seen;
    }

pub returns-clause-text : goal.returns-clause-text
returns-clause-text g c =
    let list : List Item = listed c.args.spot.rest.now in
    let count = c.count_of-index-end.ensures list c.requires.spot.list in
    let all : c.loop-index.index ≡ length list = omega (arith, count, c.loop-index-test.false, c.loop-index.auto.index-end) in
    let before : List (List ℕ) = in_lists (g.L.Ledger.lists c.args.ledger.now) c.args.spot.place in
    writes_as (ap (in_order item_text transactions_of before) (sym (take_all list c.loop-index.index all))) c.loop-index.invariant.text

pub returns-clause-seen : goal.returns-clause-seen
returns-clause-seen g c =
    let list : List Item = listed c.args.spot.rest.now in
    let count = c.count_of-index-end.ensures list c.requires.spot.list in
    let all : c.loop-index.index ≡ length list = omega (arith, count, c.loop-index-test.false, c.loop-index.auto.index-end) in
    let before : List (List ℕ) = in_lists (g.L.Ledger.lists c.args.ledger.now) c.args.spot.place in
    subst (λ (items : List Item). Remembers c.loop-index.seen (before ++ flat_map transactions_of items)) (take_all list c.loop-index.index all)
    c.loop-index.invariant.seen
