-- Votes whose shares were checked once, as they were heard.
use Rattle.std.specs.Prelude.{◌≡◌, ℕ, Bool, true, List, All}
use Rattle.hb_base.specs.Numbers.{Numbers}
use Rattle.coin_deal.specs.Heard.{is_good_share}
use Rattle.hb_wire.specs.declared.vote.Vote.{Vote}
use Rattle.hb_wire.specs.declared.vote.Vote.TheVariants.{Coin}
use Rattle.hb_rules.specs.Hearing.{Hearing}

-- whether a vote of lane j of node m shows no wrong share: that of a Coin is good, of its epoch and its round
abbrev pub is_share_checked : Numbers → ℕ → ℕ → Vote → Bool
is_share_checked c j m (Coin e r share salt branch) = is_good_share c e j r m share salt branch
is_share_checked c j m _ = true

-- so it is with all hearings
abbrev pub AreSharesChecked : Numbers → ℕ → List Hearing → Type 0
AreSharesChecked c j heard = All (λ h. is_share_checked c j h.from h.vote ≡ true) heard
