-- Echoes by their root alone, whose branches were checked.
use Rattle.std.specs.Prelude.{ℕ, Bool, false, ◌&&◌, ◌==◌, List, Option, None, Some, bytes_eq}
use Rattle.hb_wire.specs.declared.vote.Vote.{Vote}
use Rattle.hb_wire.specs.declared.vote.Vote.TheVariants.{Echo}
use Rattle.hb_rules.specs.FirstShown.{with_first}

-- whether a vote is an Echo of the epoch with this root
abbrev pub shows : ℕ → List ℕ → Vote → Bool
shows e root (Echo d other shard branch) = (d == e) && bytes_eq root other
shows e root _ = false

-- with one more, if there is one and its node has none
abbrev pub with_some : List (ℕ × List ℕ) → Option (ℕ × List ℕ) → List (ℕ × List ℕ)
with_some shown None = shown
with_some shown (Some x) = with_first shown x
