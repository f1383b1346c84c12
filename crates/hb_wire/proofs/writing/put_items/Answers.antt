use Rattle.std.proofs.Common.{◌≡◌, ◌≤◌, length, get_or, ap, arith}
use Rattle.hb_base.specs.Limits.{longest_value}
use Rattle.hb_wire.proofs.ItemLemmas.{value_short}
use Rattle.hb_wire.proofs.writing.put_items.Goals as goal

pub put_sized-requires : goal.put_sized-requires
put_sized-requires c =
    let item = c.item-item.result in
    let i = c.loop-item.item-index in
    let short : length (get_or c.args.items.now i item).value ≤ longest_value = value_short c.args.n 0 i c.args.items.now item c.requires.fit c.loop-item-test.true in
    let read : length item.value ≡ length (get_or c.args.items.now i item).value = ap (λ x. length x.value) c.item-item.is in
    rw c.as_slice.ensures (omega arith)
