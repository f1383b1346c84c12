-- Sets of actors as contracts see them: for each number of an actor the set of the nodes whose actor of this number is in it.
use Rattle.std.specs.Prelude.{ℕ, Bool, List, [], slice_index_or}
use Rattle.hb_base.specs.NodeSet.{is_in}

-- actors of a node: a lane for each of 16 nodes, and the desk
abbrev pub most_actors : ℕ
most_actors = 17

-- whether actor x of node i is in the set
abbrev pub is_marked : List (List Bool) → ℕ → ℕ → Bool
is_marked marks i x = is_in (slice_index_or marks x []) i
