-- The items of a list.
use Rattle.std.proofs.Common.{◌≡◌, List, [], ◌∷◌, length, refl, arith}
use Rattle.serde_json.specs.View.{items_view}
use Rattle.serde_json.specs.declared.value.Value.{Value}
use Rattle.script_reader.specs.Entries.{count_items}

pub count_items_view : (vs : List Value) → count_items (items_view vs) ≡ length vs
count_items_view [] = refl
count_items_view (v ∷ vs) = rw (count_items_view vs) (omega arith)
