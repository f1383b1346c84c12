-- Votes whose branches were checked once, as they were heard.
use Rattle.std.specs.Prelude.{◌≡◌, ℕ, Bool, true, ◌&&◌, nat_lt, List, All}
use Rattle.merkle_branch.specs.Branches.{is_branch}
use Rattle.hb_wire.specs.declared.vote.Vote.{Vote}
use Rattle.hb_wire.specs.declared.vote.Vote.TheVariants.{Echo}
use Rattle.hb_rules.specs.Hearing.{Hearing}

-- whether a vote of node m, one of n nodes, shows no wrong branch: that of an Echo leads from the shard, as leaf m, to the root
abbrev pub is_checked : ℕ → ℕ → Vote → Bool
is_checked n m (Echo e root shard branch) = nat_lt m n && is_branch root n m shard branch
is_checked n m _ = true

-- so it is with all hearings
abbrev pub AreChecked : ℕ → List Hearing → Type 0
AreChecked n heard = All (λ h. is_checked n h.from h.vote ≡ true) heard
