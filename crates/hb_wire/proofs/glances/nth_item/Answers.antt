use Rattle.std.proofs.Common.{◌≡◌, ◌<◌, ◌+◌, ◌-◌, get_or, sym, ap, subst, ◌∙◌, arith}
use Rattle.hb_wire.specs.Reading.{items_in}
use Rattle.hb_wire.specs.Lists.{HasItems, listed}
use Rattle.hb_wire.proofs.ListLemmas.{has_more}
use Rattle.hb_wire.proofs.GlanceLemmas.{items_dropped, item_found}
use Rattle.hb_wire.proofs.glances.nth_item.Goals as goal

pub items-preserved : goal.items-preserved
items-preserved c =
    let s = c.items in
    let count = get_or c.args.list.now 0 0 in
    let inside : s.counter < count = omega arith in
    record {
      has = subst (HasItems (count - (s.counter + 1))) (sym c.front_item.ensures.rest) (has_more count s.counter s.left.now inside s.invariant.has).1;
      same = ap (items_in (count - (s.counter + 1))) c.front_item.ensures.rest ∙ items_dropped count s.counter s.left.now (listed c.args.list.now) inside s.invariant.same;
    }

pub front_item-requires-2 : goal.front_item-requires-2
front_item-requires-2 c =
    let s = c.items in
    let count = get_or c.args.list.now 0 0 in
    let inside : s.counter < count = omega arith in
    (has_more count s.counter s.left.now inside s.invariant.has).0

pub returns : goal.returns
returns c = λ d.
    let s = c.items in
    let count = get_or c.args.list.now 0 0 in
    let inside : s.counter < count = omega arith in
    let at : c.args.j ≡ s.counter = omega arith in
    ap (λ k. get_or (listed c.args.list.now) k d) at
    ∙ item_found count s.counter s.left.now (listed c.args.list.now) d inside s.invariant.same
    ∙ sym c.front_item-2.ensures.first
