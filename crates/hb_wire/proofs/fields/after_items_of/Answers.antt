use Rattle.std.proofs.Common.{sym, ◌∙◌}
use Rattle.hb_wire.specs.Lists.{item}
use Rattle.hb_wire.proofs.ItemLemmas.{items_go_on}
use Rattle.hb_wire.proofs.fields.after_items_of.Goals as goal

pub items-preserved : goal.items-preserved
items-preserved c =
    let s = c.items in
    let read = c.in_ok-node in
    let step = items_go_on c.args.n s.low c.args.count s.counter s.rest.now read.after.now (item read.node read.field-0-0-1.now) c.items-test.true read.ensures in
    sym step ∙ s.invariant
