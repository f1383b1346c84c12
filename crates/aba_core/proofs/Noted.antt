-- What is noted in a round that was read, and that the state stays sound.
use Rattle.std.proofs.Common.{◌≡◌, ℕ, ◌<◌, Bool, true, false, ◌&&◌, ◌||◌, ◌==◌, List, None, Some, is_some, if◌then◌else◌, refl, sym, ap, ◌∙◌, subst, arith}
use Rattle.hb_base.specs.NodeSet.{is_in}
use Rattle.hb_base.specs.Numbers.{Numbers}
use Rattle.merkle_branch.specs.declared.Branch.{Branch}
use Rattle.coin_deal.specs.Heard.{HeardShare, heard_share}
use Rattle.coin_share.specs.Shares.{with_offered}
use Rattle.hb_wire.specs.declared.vote.Vote.{Vote}
use Rattle.hb_wire.specs.declared.vote.Vote.TheVariants.{Coin}
use Rattle.hb_wire.specs.Votes.{epoch_of}
use Rattle.hb_rules.specs.Coins.{coin_from}
use Rattle.hb_rules.specs.Hearing.{hearing}
use Rattle.hb_rules.specs.Marks.{Claim}
use Rattle.aba_core.specs.declared.round.Round.{Round}
use Rattle.aba_core.specs.Levels.{levels_of}
use Rattle.aba_core.specs.Noting.{IsClaim}
use Rattle.aba_core.specs.Passing.{Notes}
use Rattle.aba_core.specs.Rounds.{IsRound, after_share}
use Rattle.aba_core.specs.State.{AbaView, round_in, IsAba}
use Rattle.aba_core.specs.Tables.{voters_in, count_in, claims}
use Rattle.aba_core.proofs.Notes.{with_round, HasClaim, HasShare, Notes-claim, Notes-claim_less, Notes-share, Notes-share_less}
use Rattle.aba_core.proofs.Replacing.{sound_after}

-- a round of the run that was read
pub record IsRead (a : AbaView) (r : ℕ) (y : Round) : Type 0 where
  pub sound : IsAba a
  pub inside : r < a.config.rounds
  pub read : y ≡ round_in a r

-- what a call made of it
pub record MadeOf (c : Numbers) (from : ℕ) (vote : Vote) (y x : Round) : Type 0 where
  pub claims : (claim : Claim) (node : ℕ) → is_in (voters_in x.tables claim) node ≡ ((claims claim vote && (node == from)) || is_in (voters_in y.tables claim) node)
  pub levels : x.levels ≡ levels_of c (count_in x.tables) 0
  pub rest : x ≡ record y { tables = x.tables; levels = x.levels }

has_claim : (a : AbaView) (r from : ℕ) (vote : Vote) (y x : Round) → IsRead a r y → MadeOf a.config from vote y x → HasClaim a r from vote x
has_claim a r from vote y x is made =
    let same : y ≡ round_in a r = is.read in
    record {
      heard = record { inside = is.inside; count = is.sound.count; marks = ap (λ (z : Round). z.marks) made.rest ∙ ap (λ (z : Round). z.marks) same };
      rest = made.rest ∙ ap (λ (z : Round). record z { tables = x.tables; levels = x.levels }) same;
      claims = λ claim node.
          made.claims claim node ∙ ap (λ (z : Round). (claims claim vote && (node == from)) || is_in (voters_in z.tables claim) node) same;
    }

-- the new round is sound
claim_round_sound : (a : AbaView) (r from : ℕ) (vote : Vote) (y x : Round) → IsRead a r y → MadeOf a.config from vote y x
    → IsRound a.config a.lane a.epoch r x
claim_round_sound a r from vote y x is made =
    let same : y ≡ round_in a r = is.read in
    let was = is.sound.each r is.inside in
    record {
      levels = made.levels;
      n = ap (λ (z : Round). z.shares.n) (made.rest ∙ ap (λ (z : Round). record z { tables = x.tables; levels = x.levels }) same) ∙ was.n;
      f = ap (λ (z : Round). z.shares.f) (made.rest ∙ ap (λ (z : Round). record z { tables = x.tables; levels = x.levels }) same) ∙ was.f;
      root = ap (λ (z : Round). z.shares.root) (made.rest ∙ ap (λ (z : Round). record z { tables = x.tables; levels = x.levels }) same) ∙ was.root;
    }

pub claim_sound : (a : AbaView) (r from : ℕ) (vote : Vote) (y x : Round) → IsRead a r y → MadeOf a.config from vote y x → IsAba (with_round a r x)
claim_sound a r from vote y x is made =
    sound_after a r a.top x is.sound is.inside (claim_round_sound a r from vote y x is made) (omega arith) is.sound.top
    (λ h. ap (λ (z : Round). z.marks) made.rest ∙ ap (λ (z : Round). z.marks) is.read ∙ is.sound.above r h)

pub claim_noted : (a : AbaView) (r from : ℕ) (vote : Vote) (y x : Round) → IsRead a r y → MadeOf a.config from vote y x → from < a.config.n
    → epoch_of vote ≡ a.epoch → IsClaim r vote → (x.levels ≡ y.levels → ⊥) → Notes a (with_round a r x) (hearing from vote) (Some r)
claim_noted a r from vote y x is made inside epoch kind other =
    Notes-claim a r from vote x inside epoch kind (has_claim a r from vote y x is made)
    (λ same. other (same ∙ sym (ap (λ (z : Round). z.levels) is.read)))

pub claim_noted_less : (a : AbaView) (r from : ℕ) (vote : Vote) (y x : Round) → IsRead a r y → MadeOf a.config from vote y x → from < a.config.n
    → epoch_of vote ≡ a.epoch → IsClaim r vote → x.levels ≡ y.levels → Notes a (with_round a r x) (hearing from vote) None
claim_noted_less a r from vote y x is made inside epoch kind same =
    Notes-claim_less a r from vote x inside epoch kind (has_claim a r from vote y x is made)
    (sym made.levels ∙ same ∙ ap (λ (z : Round). z.levels) is.read ∙ (is.sound.each r is.inside).levels)

-- ---- shares

has_share : (a : AbaView) (r : ℕ) (share : HeardShare) (y x : Round) → IsRead a r y → x ≡ after_share y share → HasShare a r share x
has_share a r share y x is after =
    let same : x ≡ after_share (round_in a r) share = after ∙ ap (λ (z : Round). after_share z share) is.read in
    record {
      heard = record { inside = is.inside; count = is.sound.count; marks = ap (λ (z : Round). z.marks) same ∙ after_marks (round_in a r) share };
      is_round = is.sound.each r is.inside;
      after = same;
    }
  where
    after_marks : (x : Round) (share : HeardShare) → (after_share x share).marks ≡ x.marks
    after_marks x share = by (is_some x.coin)
      where
        by : (b : Bool) → (if b then x else record x { shares = with_offered x.shares share; coin = coin_from x.shares.f (with_offered x.shares share).added }).marks ≡ x.marks
        by true = refl
        by false = refl

after_sound : (c : Numbers) (j e r : ℕ) (x : Round) (share : HeardShare) → IsRound c j e r x → IsRound c j e r (after_share x share)
after_sound c j e r x share is = by (is_some x.coin)
  where
    by : (b : Bool) → IsRound c j e r (if b then x else record x { shares = with_offered x.shares share; coin = coin_from x.shares.f (with_offered x.shares share).added })
    by true = is
    by false = record { levels = is.levels; n = is.n; f = is.f; root = is.root }

pub share_sound : (a : AbaView) (r : ℕ) (share : HeardShare) (y x : Round) → IsRead a r y → x ≡ after_share y share → IsAba (with_round a r x)
share_sound a r share y x is after =
    let has : HasShare a r share x = has_share a r share y x is after in
    sound_after a r a.top x is.sound is.inside
    (subst (IsRound a.config a.lane a.epoch r) (sym has.after) (after_sound a.config a.lane a.epoch r (round_in a r) share has.is_round))
    (omega arith) is.sound.top (λ h. has.heard.marks ∙ is.sound.above r h)

pub share_noted : (a : AbaView) (r from share : ℕ) (salt : List ℕ) (branch : Branch) (y x : Round) → IsRead a r y → x ≡ after_share y (heard_share from share salt branch)
    → from < a.config.n → is_some x.coin ≡ true → y.coin ≡ None → Notes a (with_round a r x) (hearing from (Coin a.epoch r share salt branch)) (Some r)
share_noted a r from share salt branch y x is after inside known unknown =
    Notes-share a r from share salt branch x inside (has_share a r (heard_share from share salt branch) y x is after) known
    (sym (ap (λ (z : Round). z.coin) is.read) ∙ unknown)

pub share_noted_less : (a : AbaView) (r from share : ℕ) (salt : List ℕ) (branch : Branch) (y x : Round) → IsRead a r y → x ≡ after_share y (heard_share from share salt branch)
    → from < a.config.n → x.coin ≡ y.coin → Notes a (with_round a r x) (hearing from (Coin a.epoch r share salt branch)) None
share_noted_less a r from share salt branch y x is after inside coin =
    Notes-share_less a r from share salt branch x inside (has_share a r (heard_share from share salt branch) y x is after)
    (coin ∙ ap (λ (z : Round). z.coin) is.read)

-- the shares of a round are among the run's nodes
pub read_nodes : (a : AbaView) (r : ℕ) (y : Round) → IsRead a r y → y.shares.n ≡ a.config.n
read_nodes a r y is = ap (λ (z : Round). z.shares.n) is.read ∙ (is.sound.each r is.inside).n
