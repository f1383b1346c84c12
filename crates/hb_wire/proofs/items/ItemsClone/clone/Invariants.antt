use Rattle.std.proofs.Common.{◌≡◌, take}
use Rattle.hb_wire.proofs.items.ItemsClone.clone.Given as goal

abbrev pub invariant-loop-item : goal.invariant-loop-item
invariant-loop-item l = l.items ≡ take l.item-index l.item-items
