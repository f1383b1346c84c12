-- Going through the lanes beside a list that may close an epoch. The letter e is an epoch.
use Rattle.std.specs.Prelude.{ℕ, true, false, ◌&&◌, ◌==◌, List, [], ◌∷◌, Option, if◌then◌else◌}
use Rattle.hb_wire.specs.declared.items.Item.{Item}
use Rattle.hb_rules.specs.Claims.{is_decision, is_delivery}
use Rattle.hb_rules.specs.Hearing.{Hearing, heard_by}
use Rattle.hb_rules.specs.Slots.{when}

-- What is left of the list behind a lane, if it has the lane right: the lane's item is first where it has decided 1, with a
-- value that it has delivered, and is not there where it has decided 0.
abbrev pub after_lane : ℕ → List Hearing → ℕ → List Item → Option (List Item)
after_lane e heard lane [] = when (heard_by heard lane (is_decision e false)) []
after_lane e heard lane (item ∷ items) =
    if item.node == lane
    then when (heard_by heard lane (is_decision e true) && heard_by heard lane (is_delivery e item.value)) items
    else when (heard_by heard lane (is_decision e false)) (item ∷ items)
