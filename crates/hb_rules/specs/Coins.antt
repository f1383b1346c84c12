-- The coin of a round of a lane, made of shares that were heard. The letters: e is an epoch, j a lane, r a round, m a node.
use Rattle.std.specs.Prelude.{ℕ, ◌+◌, Bool, false, ◌&&◌, ◌==◌, nat_lt, List, [], length, take, fold, filter_map, All, Contains, Option, None, Some, if◌then◌else◌}
use Rattle.hb_base.specs.Counting.{count_nodes}
use Rattle.hb_base.specs.Numbers.{Numbers}
use Rattle.coin_deal.specs.Deal.{coin_root}
use Rattle.coin_deal.specs.Heard.{HeardShare, heard_share, is_good_share, IsChoice, IsCoinOf, with_heard, coin_through}
use Rattle.hb_wire.specs.declared.vote.Vote.{Vote}
use Rattle.hb_wire.specs.declared.vote.Vote.TheVariants.{Coin}
use Rattle.hb_rules.specs.Hearing.{Hearing, hearing, heard_by}

-- whether a vote of node m shows a good share
abbrev pub is_share : Numbers → ℕ → ℕ → ℕ → ℕ → Vote → Bool
is_share c e j r m (Coin d s share salt branch) = (d == e) && ((s == r) && is_good_share c e j r m share salt branch)
is_share c e j r m _ = false

-- from how many nodes a good share was heard
abbrev pub share_count : Numbers → ℕ → ℕ → ℕ → List Hearing → ℕ
share_count c e j r heard = count_nodes c.n (λ a. heard_by heard a (is_share c e j r a))

-- the hearing of a share
abbrev pub hearing_of_share : ℕ → ℕ → HeardShare → Hearing
hearing_of_share e r a = hearing a.node (Coin e r a.share a.salt a.branch)

-- The coin of a round is this bit: good shares were heard from f + 1 nodes, one polynomial of a degree of at most f goes
-- through them, node m standing at the point m + 1, and the bit is the lowest of its value at 0.
pub record HasCoin (c : Numbers) (e j r : ℕ) (heard : List Hearing) (bit : Bool) : Type 0 where
  pub shares : List HeardShare
  pub choice : IsChoice c e j r shares
  pub stand : All (λ a. Contains heard (hearing_of_share e r a)) shares
  pub coin : IsCoinOf shares bit

-- ---- the coin of those that were heard first

-- the share in a hearing
abbrev pub share_in : ℕ → ℕ → ℕ → Vote → Option HeardShare
share_in e r m (Coin d s share salt branch) = if (d == e) && (s == r) then Some (heard_share m share salt branch) else None
share_in e r m _ = None

-- the good shares that were heard, the first of each node
abbrev pub shares_in : Numbers → ℕ → ℕ → ℕ → List Hearing → List HeardShare
shares_in c e j r heard = fold (with_heard (coin_root c e j r) c.n) [] (filter_map (λ h. share_in e r h.from h.vote) heard)

-- the coin of the first f + 1 of these shares, and none where there are fewer
abbrev pub coin_from : ℕ → List HeardShare → Option Bool
coin_from f shares = if nat_lt f (length shares) then Some (coin_through (take (f + 1) shares)) else None

abbrev pub coin_in : Numbers → ℕ → ℕ → List Hearing → ℕ → Option Bool
coin_in c e j heard r = coin_from c.f (shares_in c e j r heard)
