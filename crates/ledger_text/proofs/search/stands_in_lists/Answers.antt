use Rattle.std.proofs.Common.{◌≡◌, ◌<◌, true, false, List, ℕ, length, get_or, sym, ap, ◌∙◌, arith}
use Rattle.std.specs.List.{flat_map}
use Rattle.std.proofs.lemmas.Option.{get_or_from_slice_get}
use Rattle.tx_pool.specs.Pool.{is_among}
use Rattle.hb_wire.specs.Lists.{listed}
use Rattle.acs_world.specs.Closed.{Closure}
use Rattle.acs_world.specs.Closures.{closure_of}
use Rattle.ledger_text.specs.Places.{in_batches}
use Rattle.ledger_text.specs.Text.{transactions_of, closed_transactions}
use Rattle.ledger_text.proofs.Among.{among_none, among_one, take_all}
use Rattle.ledger_text.proofs.search.stands_in_lists.Goals as goal

pub returns-then-stands_in_batches : goal.returns-then-stands_in_batches
returns-then-stands_in_batches g c =
    let lists : List Closure = g.L.Ledger.lists c.args.ledger.now in
    let place : ℕ = c.loop-place.place in
    let rest : List ℕ = c.in-Some.closing.rest.now in
    let x : Closure = closure_of c.in-Some.closing.epoch (listed rest) in
    let low : place < c.args.count = omega (arith, c.loop-place-test.true) in
    let is : x ≡ get_or lists place x = sym (get_or_from_slice_get lists place x x c.in-Some.ensures.some.there) in
    let whole : in_batches rest c.count_of.result ≡ closed_transactions x =
    ap (flat_map transactions_of) (take_all (listed rest) c.count_of.result (c.count_of.ensures (listed rest) c.in-Some.ensures.some.shown)) in
    let here : is_among (closed_transactions x) c.args.tx.now ≡ true =
    ap (λ (txs : List (List ℕ)). is_among txs c.args.tx.now) (sym whole) ∙ sym c.stands_in_batches.ensures ∙ c.if-stands_in_batches.true in
    sym (among_one closed_transactions lists c.args.tx.now place c.args.count x x low c.requires is here)

pub loop-place-preserved : goal.loop-place-preserved
loop-place-preserved g c =
    let lists : List Closure = g.L.Ledger.lists c.args.ledger.now in
    let place : ℕ = c.loop-place.place in
    let rest : List ℕ = c.in-Some.closing.rest.now in
    let x : Closure = closure_of c.in-Some.closing.epoch (listed rest) in
    let below : place < length lists = omega (arith, c.loop-place-test.true, c.requires) in
    let is : x ≡ get_or lists place x = sym (get_or_from_slice_get lists place x x c.in-Some.ensures.some.there) in
    let whole : in_batches rest c.count_of.result ≡ closed_transactions x =
    ap (flat_map transactions_of) (take_all (listed rest) c.count_of.result (c.count_of.ensures (listed rest) c.in-Some.ensures.some.shown)) in
    let here : is_among (closed_transactions x) c.args.tx.now ≡ false =
    ap (λ (txs : List (List ℕ)). is_among txs c.args.tx.now) (sym whole) ∙ sym c.stands_in_batches.ensures ∙ c.if-stands_in_batches.false in
    among_none closed_transactions lists c.args.tx.now place x x below is c.loop-place.invariant here
