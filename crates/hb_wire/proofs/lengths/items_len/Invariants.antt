use Rattle.std.proofs.Common.{◌≡◌, ◌≤◌, ◌+◌, ◌*◌, length, take}
use Rattle.std.specs.List.{flat_map}
use Rattle.hb_wire.specs.Votes.{item_bytes}
use Rattle.hb_base.specs.Limits.{longest_value}
use Rattle.hb_wire.proofs.lengths.items_len.Given as goal

abbrev pub invariant-loop-item : goal.invariant-loop-item
invariant-loop-item l = record {
  exact : l.len ≡ 1 + length (flat_map item_bytes (take l.item-index l.items));
  small : l.len ≤ 1 + l.item-index * (5 + longest_value);
}
