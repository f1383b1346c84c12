use Rattle.std.proofs.Common.{◌≡◌, ◌<◌, List, ℕ, [], length, get_or, sym, ◌+◌, ◌++◌, subst}
use Rattle.std.proofs.lemmas.Option.{get_or_from_slice_get, slice_get_within}
use Rattle.std.proofs.lemmas.Result.{err_from_is_err_and}
use Rattle.hb_wire.specs.Lists.{listed}
use Rattle.acs_world.specs.Closed.{Closure}
use Rattle.acs_world.specs.Closures.{closure_of}
use Rattle.ledger_text.specs.Places.{in_lists}
use Rattle.ledger_text.specs.Seen.{Remembers}
use Rattle.ledger_text.specs.Text.{list_text, closed_transactions}
use Rattle.ledger_text.proofs.Order.{writes_nothing, writes_on, writes_stop, order_step, order_split, each_step}
use Rattle.ledger_text.proofs.Remembered.{remembers_none}
use Rattle.ledger_text.proofs.ledger.put_ledger.Goals as goal

pub returns-in_err-put_list : goal.returns-in_err-put_list
returns-in_err-put_list g c =
    let p = err_from_is_err_and c.from_residual.result c.from_residual.ensures.1 in
    let lists : List Closure = g.L.Ledger.lists c.args.ledger.now in
    let place : ℕ = c.loop-place.place in
    let x : Closure = closure_of c.in-Some.closing.epoch (listed c.in-Some.closing.rest.now) in
    let inside : place < length lists = slice_get_within lists place x c.in-Some.ensures.some.there in
    let is : x ≡ get_or lists place x = sym (get_or_from_slice_get lists place x x c.in-Some.ensures.some.there) in
    rw p.1 (writes_stop _ (order_split list_text closed_transactions [] lists place x x inside is) c.loop-place.invariant.text c.in_err-put_list.ensures.text)

pub loop-place-preserved : goal.loop-place-preserved
loop-place-preserved g c =
    let lists : List Closure = g.L.Ledger.lists c.args.ledger.now in
    let place : ℕ = c.loop-place.place in
    let x : Closure = closure_of c.in-Some.closing.epoch (listed c.in-Some.closing.rest.now) in
    let inside : place < length lists = slice_get_within lists place x c.in-Some.ensures.some.there in
    let is : x ≡ get_or lists place x = sym (get_or_from_slice_get lists place x x c.in-Some.ensures.some.there) in
    let more : in_lists (g.L.Ledger.lists c.args.ledger.now) (place + 1) ≡ in_lists (g.L.Ledger.lists c.args.ledger.now) place ++ closed_transactions x =
    each_step closed_transactions lists place x x inside is in
    record {
      text = writes_on (order_step list_text closed_transactions [] lists place x x inside is) c.loop-place.invariant.text c.in_ok-put_list.ensures.text;
      seen = subst (λ (txs : List (List ℕ)). Remembers c.put_list.new.seen txs) (sym more) c.in_ok-put_list.ensures.seen;
    }

pub loop-place-init : goal.loop-place-init
loop-place-init g c = record {
  text = writes_nothing _ _ tt;
  seen = remembers_none c.new-seen.result c.new-seen.ensures.chained c.new-seen.ensures.none;
}
