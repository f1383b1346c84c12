use Rattle.std.proofs.Common.{◌≡◌, ◌-◌}
use Rattle.hb_wire.specs.Reading.{after_items}
use Rattle.hb_wire.proofs.fields.after_items_of.Given as goal

-- what is left ends where all items end
abbrev pub invariant-items : goal.invariant-items
invariant-items l = after_items l.n l.low (l.count - l.counter) l.rest ≡ after_items l.n 0 l.count l.fn.bytes
