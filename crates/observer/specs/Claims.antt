-- Which nodes have made each claim. A claim is told by the bytes of its vote.
use Rattle.std.specs.Prelude.{◌≡◌, ℕ, Bool, false, List, bytes_eq, unwrap_or, replicate, if◌then◌else◌}
use Rattle.std.specs.BTreeMap.{is_at}
use Rattle.std.specs.Cmp.Lexicographic.{slice_cmp}
use Rattle.std.specs.Map.{lookup}
use Rattle.std.specs.Ordering.{nat_cmp}
use Rattle.hb_base.specs.Limits.{most_nodes}

-- bytes of votes, each with a set of nodes
abbrev pub Table : Type 0
Table = List (List ℕ × List Bool)

abbrev pub no_nodes : List Bool
no_nodes = replicate most_nodes false

-- the nodes of some bytes
abbrev pub nodes_at : Table → List ℕ → List Bool
nodes_at table bytes = unwrap_or (lookup (is_at (slice_cmp nat_cmp bytes)) table) no_nodes

-- some bytes have these nodes now, and all others have theirs
pub record Sets (old new : Table) (bytes : List ℕ) (nodes : List Bool) : Type 0 where
  pub is : (other : List ℕ) → nodes_at new other ≡ (if bytes_eq bytes other then nodes else nodes_at old other)
