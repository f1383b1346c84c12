-- Counting nodes.
use Rattle.std.specs.Prelude.{ℕ, zero, suc, ◌+◌, Bool, if◌then◌else◌}

-- how many nodes below n pass the test
abbrev pub count_nodes : ℕ → (ℕ → Bool) → ℕ
count_nodes zero test = 0
count_nodes (suc n) test = count_nodes n test + (if test n then 1 else 0)
