use Rattle.std.proofs.Common.{◌≡◌, ◌+◌, ◌-◌, ◌++◌, ◌∷◌, [], get_or, sym, ap, subst, ◌∙◌}
use Rattle.hb_wire.specs.Reading.{first_item, items_in}
use Rattle.hb_wire.specs.Lists.{HasItems, item}
use Rattle.hb_wire.proofs.ListLemmas.{has_more, items_more, items_all}
use Rattle.hb_wire.proofs.items_view.items_of.Goals as goal

pub items-preserved : goal.items-preserved
items-preserved c =
    let s = c.items in
    let read = c.front_item-node in
    let count = get_or c.args.list.now 0 0 in
    let after = read.result.1.now in
    let has = has_more count s.counter s.rest.now c.items-test.true s.invariant.has in
    let x = item read.result.0.0 c.in_ok-value.value in
    let first : x ≡ first_item s.rest.now = ap (item read.result.0.0) c.in_ok-value.ensures ∙ read.ensures.first in
    let more = items_more count s.counter s.rest.now s.items x c.items-test.true first in
    record {
      has = subst (HasItems (count - (s.counter + 1))) (sym read.ensures.rest) has.1;
      all = ap (λ xs. xs ++ items_in (count - (s.counter + 1)) after) c.in_ok-push.ensures.ok
          ∙ ap (λ bs. (s.items ++ x ∷ []) ++ items_in (count - (s.counter + 1)) bs) read.ensures.rest
          ∙ more ∙ s.invariant.all;
    }

pub returns : goal.returns
returns c =
    let s = c.items in
    sym (items_all (get_or c.args.list.now 0 0) s.counter s.rest.now s.items c.items-test.false) ∙ s.invariant.all
