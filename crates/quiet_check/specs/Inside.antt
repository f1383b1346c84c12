-- The nodes that a run has.
use Rattle.std.specs.Prelude.{ℕ, nat_lt, Bool}
use Rattle.hb_rules.specs.Hearing.{Hearing}

-- whether a hearing is of one of the n nodes
abbrev pub is_inside : ℕ → Hearing → Bool
is_inside n h = nat_lt h.from n
