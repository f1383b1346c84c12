use Rattle.std.proofs.Common.{◌≡◌, ◌-◌, drop, get_or}
use Rattle.hb_wire.specs.Reading.{items_in}
use Rattle.hb_wire.specs.Lists.{HasItems, listed}
use Rattle.hb_wire.proofs.glances.nth_item.Given as goal

-- what is left has the items from here on
abbrev pub invariant-items : goal.invariant-items
invariant-items l =
    let left = get_or l.list 0 0 - l.counter in
    record {
      has : HasItems left l.left;
      same : items_in left l.left ≡ drop l.counter (listed l.list);
    }
