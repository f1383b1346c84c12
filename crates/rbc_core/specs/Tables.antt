-- How a table keeps what was heard of each root.
use Rattle.std.specs.Prelude.{ℕ, List, map}
use Rattle.std.specs.BTreeMap.{BTreeMap}
use Rattle.std.specs.Global.{Box}
use Rattle.rbc_core.specs.declared.root_state.RootState.{RootState}
use Rattle.rbc_core.specs.RootViews.{RootView, root_view}

-- what a root's state shows, in its box
abbrev pub box_view : Box RootState → RootView
box_view b = root_view b.value

-- the roots of a map, and what the state of each shows
abbrev pub table_of : BTreeMap (List ℕ) (Box RootState) → List (List ℕ × RootView)
table_of m = map {B = List ℕ × RootView} (λ e. (e.0, box_view e.1)) m.entries
