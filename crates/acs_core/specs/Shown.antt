-- What the lanes of a node have shown of an epoch, and the items that this comes to.
use Rattle.std.specs.Prelude.{ℕ, zero, suc, Bool, List, [], ◌++◌, Option, None, Some, slice_index_or}
use Rattle.std.specs.Option.{option_map, option_and_then, option_or}
use Rattle.hb_wire.specs.declared.items.Item.{Item}
use Rattle.hb_rules.specs.DeskRows.{items_of}
use Rattle.acs_core.specs.declared.shown.Shown.{Shown}

-- what a lane has shown that was not heard
abbrev pub nothing : Shown
nothing = record { decision = None; value = None }

-- what lane j has shown
abbrev pub shown_at : List Shown → ℕ → Shown
shown_at lanes j = slice_index_or lanes j nothing

-- with a decision, or a value, where it has none
abbrev pub with_decision : Shown → Bool → Shown
with_decision shown bit = record shown { decision = option_or shown.decision (Some bit) }

abbrev pub with_value : Shown → List ℕ → Shown
with_value shown value = record shown { value = option_or shown.value (Some value) }

-- the items of the lanes below j, rising, once all have decided and those with 1 have delivered
abbrev pub accepted_of : List Shown → ℕ → Option (List Item)
accepted_of lanes zero = Some []
accepted_of lanes (suc j) =
    option_and_then (λ items. option_map (λ more. items ++ more) (option_and_then (items_of j (shown_at lanes j).value) (shown_at lanes j).decision))
    (accepted_of lanes j)
