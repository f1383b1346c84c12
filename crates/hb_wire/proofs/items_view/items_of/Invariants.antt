use Rattle.std.proofs.Common.{◌≡◌, ◌-◌, ◌++◌, get_or}
use Rattle.hb_wire.specs.Reading.{items_in}
use Rattle.hb_wire.specs.Lists.{HasItems, listed}
use Rattle.hb_wire.proofs.items_view.items_of.Given as goal

-- the items so far and those of what is left are all
abbrev pub invariant-items : goal.invariant-items
invariant-items l =
    let left = get_or l.list 0 0 - l.counter in
    record {
      has : HasItems left l.rest;
      all : l.items ++ items_in left l.rest ≡ listed l.list;
    }
