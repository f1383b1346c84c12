-- What a node knows of one round. The letters: round r of the agreement of lane j and epoch e.
use Rattle.std.specs.Prelude.{◌≡◌, ℕ, false, [], None, is_some, if◌then◌else◌}
use Rattle.hb_base.specs.NodeSet.{is_in}
use Rattle.hb_base.specs.Numbers.{Numbers}
use Rattle.coin_deal.specs.Deal.{coin_root}
use Rattle.coin_deal.specs.Heard.{HeardShare}
use Rattle.coin_share.specs.Shares.{with_offered}
use Rattle.hb_rules.specs.Coins.{coin_from}
use Rattle.hb_rules.specs.Marks.{Claim}
use Rattle.aba_core.specs.declared.round.Round.{Round}
use Rattle.aba_core.specs.Bits.{no_bits}
use Rattle.aba_core.specs.Levels.{levels_of}
use Rattle.aba_core.specs.Marks.{no_marks}
use Rattle.aba_core.specs.Tables.{no_tables, voters_in, count_in}

-- The levels are those of the counts, and the shares are of the round's coin.
pub record IsRound (c : Numbers) (j e r : ℕ) (x : Round) : Type 0 where
  pub levels : x.levels ≡ levels_of c (count_in x.tables) 0
  pub n : x.shares.n ≡ c.n
  pub f : x.shares.f ≡ c.f
  pub root : x.shares.root ≡ coin_root c e j r

-- nothing was cast or heard
pub record IsNew (c : Numbers) (j e r : ℕ) (x : Round) : Type 0 where
  pub is_round : IsRound c j e r x
  pub marks : x.marks ≡ no_marks
  pub none : (claim : Claim) (node : ℕ) → is_in (voters_in x.tables claim) node ≡ false
  pub shares : x.shares.added ≡ []
  pub coin : x.coin ≡ None

-- one share more was heard; it counts until the coin is known
abbrev pub after_share : Round → HeardShare → Round
after_share x a =
    if is_some x.coin then x
    else record x { shares = with_offered x.shares a; coin = coin_from x.shares.f (with_offered x.shares a).added }

-- the round in which nothing was cast or heard
unfoldable pub new_round : Numbers → ℕ → ℕ → ℕ → Round
new_round c j e r = record {
  marks = no_marks;
  tables = no_tables;
  levels = levels_of c (count_in no_tables) 0;
  shares = record { n = c.n; f = c.f; root = coin_root c e j r; added = [] };
  coin = None;
}

-- a round that the run does not have
abbrev pub blank : Round
blank = record {
  marks = no_marks;
  tables = no_tables;
  levels = record {
    backed = no_bits;
    supported = no_bits;
    accepted = no_bits;
    gathered = no_bits;
    any_gathered = false;
    confirmed = no_bits;
    any_confirmed = false;
    left = no_bits;
  };
  shares = record { n = 0; f = 0; root = []; added = [] };
  coin = None;
}
