-- A set of nodes as contracts see it: the marks of the nodes, from 0 on.
use Rattle.std.specs.Prelude.{ℕ, Bool, false, List, slice_index_or}

-- whether a node is in the set
abbrev pub is_in : List Bool → ℕ → Bool
is_in set node = slice_index_or set node false
