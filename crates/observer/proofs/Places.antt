-- Whether lists at a place are the same, by their bytes.
use Rattle.std.proofs.Common.{◌≡◌, ℕ, List, slice_get, Some}
use Rattle.hb_wire.specs.declared.items.Item.{Item}
use Rattle.hb_wire.specs.Glances.{IsClosedRest}
use Rattle.hb_wire.specs.Lists.{listed}
use Rattle.acs_world.specs.Lists.{IsListAt}

pub list_here : (lists : List (List Item)) (e : ℕ) (rest : List ℕ) → slice_get lists e ≡ Some (listed rest) → IsClosedRest rest (listed rest)
    → IsListAt lists e rest
list_here lists e rest there shown = record { list = listed rest; there = there; shown = shown }
