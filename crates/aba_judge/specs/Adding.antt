-- Shares that are added as they were heard.
use Rattle.std.specs.Prelude.{ℕ, List, Option, None, Some}
use Rattle.hb_base.specs.Numbers.{Numbers}
use Rattle.coin_deal.specs.Deal.{coin_root}
use Rattle.coin_deal.specs.Heard.{HeardShare}
use Rattle.coin_share.specs.Shares.{SharesView, with_offered}
use Rattle.hb_rules.specs.Coins.{share_in, shares_in}
use Rattle.hb_rules.specs.Hearing.{Hearing}

abbrev pub with_some : SharesView → Option HeardShare → SharesView
with_some s None = s
with_some s (Some a) = with_offered s a

-- with the share that a hearing shows for the round
abbrev pub with_shown : SharesView → ℕ → ℕ → Hearing → SharesView
with_shown s e r h = with_some s (share_in e r h.from h.vote)

-- the good shares of a round that were heard
abbrev pub shares_at : Numbers → ℕ → ℕ → ℕ → List Hearing → SharesView
shares_at c e j r heard = record { n = c.n; f = c.f; root = coin_root c e j r; added = shares_in c e j r heard }
