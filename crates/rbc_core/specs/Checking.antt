-- Whether shards have a root.
use Rattle.std.specs.Prelude.{ℕ, List, Option, if◌then◌else◌, bytes_eq}
use Rattle.merkle_branch.specs.Digests.{tree_root}
use Rattle.rs_shards.specs.Frame.{framed_value}
use Rattle.hb_rules.specs.Slots.{when}
use Rattle.rbc_core.specs.declared.answer.Check.{Check}
use Rattle.rbc_core.specs.declared.answer.Check.TheVariants.{Good, OtherRoot}

-- the value that the first k of the shards carry, where the tree over all of them has the root, and else its root
abbrev pub check_of : List ℕ → ℕ → List (List ℕ) → Check
check_of root k shards = if bytes_eq (tree_root shards) root then Good (framed_value k shards) else OtherRoot (tree_root shards)

-- the value alone
abbrev pub good_value : List ℕ → ℕ → List (List ℕ) → Option (List ℕ)
good_value root k shards = when (bytes_eq (tree_root shards) root) (framed_value k shards)
