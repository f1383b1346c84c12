-- The shares of one coin that were added one by one, and those of them that make the coin.
use Rattle.std.specs.Prelude.{◌≡◌, ℕ, ◌+◌, ◌*◌, ◌<◌, ◌≤◌, List, [], ◌∷◌, ◌++◌, map, take}
use Rattle.hb_base.specs.Limits.{most_nodes}
use Rattle.hb_base.specs.Numbers.{Numbers}
use Rattle.coin_deal.specs.Deal.{coin_root}
use Rattle.coin_deal.specs.Heard.{HeardShare, heard_share, with_heard, AreGood}
use Rattle.coin_share.specs.declared.KeptShare.{KeptShare}

-- what a `Shares` has: the numbers of the run, the published root, and the shares that were added, in order
pub record SharesView : Type 0 where
  pub n : ℕ
  pub f : ℕ
  pub root : List ℕ
  pub added : List HeardShare

-- one share more
abbrev pub with_share : SharesView → HeardShare → SharesView
with_share s a = record s { added = s.added ++ a ∷ [] }

-- what it has once a share was offered
abbrev pub with_offered : SharesView → HeardShare → SharesView
with_offered s a = record s { added = with_heard s.root s.n s.added a }

-- the shares that make the coin: the first f + 1
abbrev pub deciding : SharesView → List HeardShare
deciding s = take (s.f + 1) s.added

-- the numbers and the root are those of a dealt coin
pub record IsOfCoin (s : SharesView) (c : Numbers) (e j r : ℕ) : Type 0 where
  pub n : s.n ≡ c.n
  pub f : s.f ≡ c.f
  pub root : s.root ≡ coin_root c e j r

-- the shares that a `Shares` keeps, as they were added
abbrev pub added_of : List KeptShare → List HeardShare
added_of kept = map (λ k. heard_share k.node k.share k.salt.value k.branch.value) kept

-- what a `Shares` has, of whose entries the first count are shares
abbrev pub view_of : (n f : ℕ) (root : List ℕ) (count : ℕ) (kept : List KeptShare) → SharesView
view_of n f root count kept = record { n = n; f = f; root = root; added = added_of (take count kept) }

-- how a `Shares` keeps them: the first count of 16 entries, in a run that can be
pub record AreKept (s : SharesView) (count entries : ℕ) : Type 0 where
  pub few : s.n ≤ most_nodes
  pub enough : 3 * s.f < s.n
  pub good : AreGood s.root s.n s.added
  pub front : count ≤ s.n
  pub whole : entries ≡ most_nodes
