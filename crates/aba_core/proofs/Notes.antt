-- What a state takes in, and what it then shows.
use Rattle.std.proofs.Common.{◌≡◌, ℕ, ◌<◌, ◌≤◌, Bool, true, false, ◌&&◌, ◌||◌, ◌==◌, inl, inr, List, [], ◌∷◌, ◌++◌, length, slice_index_or, slice_set, Option, None, Some, is_some, if◌then◌else◌, refl, sym, ap, ◌∙◌, subst, arith}
use Rattle.std.proofs.lemmas.Bool.{cases_eq, eqb-true, and_left, and_right, ne_eqb}
use Rattle.hb_base.specs.NodeSet.{is_in}
use Rattle.hb_base.specs.Numbers.{Numbers}
use Rattle.merkle_branch.specs.declared.Branch.{Branch}
use Rattle.coin_deal.specs.Heard.{HeardShare, heard_share, with_heard}
use Rattle.coin_share.specs.Shares.{with_offered}
use Rattle.hb_wire.specs.declared.vote.Vals.{Vals}
use Rattle.hb_wire.specs.declared.vote.Vote.{Vote}
use Rattle.hb_wire.specs.declared.vote.Vote.TheVariants.{Bval, Aux, Conf, Coin, NoMore}
use Rattle.hb_wire.specs.Votes.{epoch_of}
use Rattle.hb_rules.specs.Claims.{is_no_more}
use Rattle.hb_rules.specs.Coins.{share_in, shares_in, coin_from, coin_in}
use Rattle.hb_rules.specs.Hearing.{Hearing, hearing, heard_by}
use Rattle.hb_rules.specs.Marks.{Mark, delivery, any_est, decision, any_decision, Claim, bvals, auxes, any_auxes, confs, any_confs, confs_with, makes}
use Rattle.aba_core.specs.declared.round.Round.{Round}
use Rattle.aba_core.specs.Levels.{levels_of}
use Rattle.aba_core.specs.Marks.{is_marked}
use Rattle.aba_core.specs.Noting.{IsClaim}
use Rattle.aba_core.specs.Passing.{Notes}
use Rattle.aba_core.specs.Rounds.{IsRound, after_share, blank}
use Rattle.aba_core.specs.Standing.{Shows}
use Rattle.aba_core.specs.State.{AbaView, round_in, mark_round, claim_round, mark_at}
use Rattle.aba_core.specs.Tables.{voters_in, count_in, claims}
use Rattle.aba_core.proofs.Hearing.{heard_by-push, heard_by-none, nodes_now, makes_claims, makes_other, claim_shows_none, claim_no_more, shares_none, shares_one, coin_kept, share_here, share_away}
use Rattle.aba_core.proofs.Replacing.{round-same, round-other}
use Rattle.aba_core.proofs.Resting.{Spares, spares_resting, begin_rests}

-- ---- nothing

-- a hearing that the agreement does not take in
pub record IsUnheard (a : AbaView) (h : Hearing) : Type 0 where
  pub from : h.from < a.config.n
  pub claims : (claim : Claim) → claim_round claim < a.config.rounds → makes a.epoch claim h.vote ≡ false
  pub share : (r : ℕ) → r < a.config.rounds → share_in a.epoch r h.from h.vote ≡ None
  pub no_more : h.from ≡ a.node → is_no_more a.epoch h.vote ≡ false

other_none : (heard : List Hearing) (h : Hearing) (i : ℕ) (test : Vote → Bool) → (h.from ≡ i → test h.vote ≡ false)
    → heard_by (heard ++ h ∷ []) i test ≡ heard_by heard i test
other_none heard h i test fails = heard_by-push heard h i test ∙ by (i == h.from) refl
  where
    by : (b : Bool) → (i == h.from) ≡ b → ((test h.vote && b) || heard_by heard i test) ≡ heard_by heard i test
    by true same = ap (λ (t : Bool). (t && true) || heard_by heard i test) (fails (sym (eqb-true i h.from same)))
    by false apart = ap (λ (t : Bool). t || heard_by heard i test) (and_right (test h.vote) false refl)

pub Notes-none : (a : AbaView) (h : Hearing) → IsUnheard a h → Notes a a h None
Notes-none a h unheard = record {
  place = refl;
  known = tt;
  shows = λ own heard shows. record {
    cast = shows.cast;
    said = λ claim below m. shows.said claim below m ∙ sym (heard_by-none heard h m (makes a.epoch claim) (unheard.claims claim below));
    shares = λ r below none. shows.shares r below none ∙ sym (shares_none a.config a.epoch a.lane r heard h (unheard.share r below));
    coins = λ r below. shows.coins r below ∙ sym (ap (coin_from a.config.f) (shares_none a.config a.epoch a.lane r heard h (unheard.share r below)));
    no_more = shows.no_more ∙ sym (other_none heard h a.node (is_no_more a.epoch) unheard.no_more);
    nodes = nodes_now a.config.n heard h unheard.from shows.nodes;
    few = shows.few;
  };
  resting = λ resting. resting;
  wakes = tt;
}

-- ---- one round

-- the state with one round replaced
abbrev pub with_round : AbaView → ℕ → Round → AbaView
with_round a r x = record a { rounds = slice_set a.rounds r x }

-- the marks are those that were
marks_same : (a : AbaView) (r : ℕ) (x : Round) → r < length a.rounds → x.marks ≡ (round_in a r).marks → (s : ℕ)
    → (slice_index_or (slice_set a.rounds r x) s blank).marks ≡ (round_in a s).marks
marks_same a r x below same s = elim (cases_eq s r) [
  | inl is ↦
      subst (λ (k : ℕ). (slice_index_or (slice_set a.rounds r x) k blank).marks ≡ (round_in a k).marks) (sym is)
      (ap (λ (y : Round). y.marks) (round-same a.rounds r x below) ∙ same)
  | inr apart ↦ ap (λ (y : Round). y.marks) (round-other a.rounds r s x apart)
]

pub mark_same : (a : AbaView) (r : ℕ) (x : Round) → r < length a.rounds → x.marks ≡ (round_in a r).marks → (mark : Mark)
    → mark_at (with_round a r x) mark ≡ mark_at a mark
mark_same a r x below same delivery = refl
mark_same a r x below same (decision b) = refl
mark_same a r x below same any_decision = refl
mark_same a r x below same mark = ap (λ m. is_marked m mark) (marks_same a r x below same (mark_round mark))

-- a round in which nothing but tables and coin may have changed
pub record IsHeardRound (a : AbaView) (r : ℕ) (x : Round) : Type 0 where
  pub inside : r < a.config.rounds
  pub count : length a.rounds ≡ a.config.rounds
  pub marks : x.marks ≡ (round_in a r).marks

at_round : (a : AbaView) (r : ℕ) (x : Round) → IsHeardRound a r x → round_in (with_round a r x) r ≡ x
at_round a r x is = round-same a.rounds r x (omega (arith, is.inside, is.count))

at_other : (a : AbaView) (r s : ℕ) (x : Round) → (s ≡ r → ⊥) → round_in (with_round a r x) s ≡ round_in a s
at_other a r s x apart = round-other a.rounds r s x apart

-- the slots of the rounds below k rest as before, where the levels and the coins there are the same
spared : (a : AbaView) (r k : ℕ) (x : Round) → IsHeardRound a r x → (r < k → levels_of a.config (count_in x.tables) 0 ≡ levels_of a.config (count_in (round_in a r).tables) 0)
    → (r < k → x.coin ≡ (round_in a r).coin) → Spares k a (with_round a r x)
spared a r k x is levels coin = record {
  place = refl;
  alike = record {
    cast = λ mark kind below. sym (mark_same a r x (omega (arith, is.inside, is.count)) is.marks mark);
    levels = λ s below. elim (cases_eq s r) [
      | inl same ↦
          sym (ap (λ (y : Round). levels_of a.config (count_in y.tables) 0) (ap (λ (k : ℕ). round_in (with_round a r x) k) same ∙ at_round a r x is)
          ∙ levels (omega (arith, below, same)) ∙ ap (λ (k : ℕ). levels_of a.config (count_in (round_in a k).tables) 0) (sym same))
      | inr apart ↦ ap (λ (y : Round). levels_of a.config (count_in y.tables) s) (sym (at_other a r s x apart))
    ];
    coin = λ s below. elim (cases_eq s r) [
      | inl same ↦
          sym (ap (λ (y : Round). y.coin) (ap (λ (k : ℕ). round_in (with_round a r x) k) same ∙ at_round a r x is)
          ∙ coin (omega (arith, below, same)) ∙ ap (λ (k : ℕ). (round_in a k).coin) (sym same))
      | inr apart ↦ ap (λ (y : Round). y.coin) (sym (at_other a r s x apart))
    ];
  };
  begin = λ b some rests.
      begin_rests a (with_round a r x) refl
      (record { delivery = refl; no_more = refl })
      (λ was. mark_same a r x (omega (arith, is.inside, is.count)) is.marks (any_est 0) ∙ was) b rests;
  grows = λ mark below was. mark_same a r x (omega (arith, is.inside, is.count)) is.marks mark ∙ was;
}

-- ---- a claim

-- what a round has after a claim
pub record HasClaim (a : AbaView) (r from : ℕ) (vote : Vote) (x : Round) : Type 0 where
  pub heard : IsHeardRound a r x
  pub rest : x ≡ record (round_in a r) { tables = x.tables; levels = x.levels }
  pub claims : (claim : Claim) (node : ℕ) → is_in (voters_in x.tables claim) node ≡ ((claims claim vote && (node == from)) || is_in (voters_in (round_in a r).tables claim) node)

claim_shown : (a : AbaView) (r from : ℕ) (vote : Vote) (x : Round) → from < a.config.n → epoch_of vote ≡ a.epoch → IsClaim r vote → HasClaim a r from vote x
    → (own : List Vote) (heard : List Hearing) → Shows a own heard → Shows (with_round a r x) own (heard ++ hearing from vote ∷ [])
claim_shown a r from vote x inside epoch is has own heard shows = record {
  cast = λ mark below. mark_same a r x (omega (arith, has.heard.inside, has.heard.count)) has.heard.marks mark ∙ shows.cast mark below;
  said = λ claim below m. elim (cases_eq (claim_round claim) r) [
    | inl same ↦
        ap (λ (y : Round). is_in (voters_in y.tables claim) m) (ap (λ (k : ℕ). round_in (with_round a r x) k) same ∙ at_round a r x has.heard)
        ∙ has.claims claim m
        ∙ ap (λ (b : Bool). (b && (m == from)) || is_in (voters_in (round_in a r).tables claim) m) (sym (makes_claims a.epoch r vote claim epoch is same))
        ∙ ap (λ (b : Bool). (makes a.epoch claim vote && (m == from)) || b)
        (ap (λ (k : ℕ). is_in (voters_in (round_in a k).tables claim) m) (sym same) ∙ shows.said claim below m)
        ∙ sym (heard_by-push heard (hearing from vote) m (makes a.epoch claim))
    | inr apart ↦
        ap (λ (y : Round). is_in (voters_in y.tables claim) m) (at_other a r (claim_round claim) x apart)
        ∙ shows.said claim below m
        ∙ sym (heard_by-none heard (hearing from vote) m (makes a.epoch claim) (makes_other a.epoch r vote claim is apart))
  ];
  shares = λ s below none.
      ap (λ (y : Round). y.shares.added) (same_rest s)
      ∙ shows.shares s below (sym (ap (λ (y : Round). y.coin) (same_rest s)) ∙ none)
      ∙ sym (shares_none a.config a.epoch a.lane s heard (hearing from vote) (claim_shows_none a.epoch s r from vote is));
  coins = λ s below.
      ap (λ (y : Round). y.coin) (same_rest s)
      ∙ shows.coins s below
      ∙ sym (ap (coin_from a.config.f) (shares_none a.config a.epoch a.lane s heard (hearing from vote) (claim_shows_none a.epoch s r from vote is)));
  no_more = shows.no_more ∙ sym (heard_by-none heard (hearing from vote) a.node (is_no_more a.epoch) (claim_no_more a.epoch r vote is));
  nodes = nodes_now a.config.n heard (hearing from vote) inside shows.nodes;
  few = shows.few;
}
  where
    same_rest : (s : ℕ) → round_in (with_round a r x) s
        ≡ record (round_in a s) { tables = (round_in (with_round a r x) s).tables; levels = (round_in (with_round a r x) s).levels }
    same_rest s = elim (cases_eq s r) [
      | inl same ↦
          subst (λ (k : ℕ). round_in (with_round a r x) k
          ≡ record (round_in a k) { tables = (round_in (with_round a r x) k).tables; levels = (round_in (with_round a r x) k).levels }) (sym same)
          (subst (λ (y : Round). y ≡ record (round_in a r) { tables = y.tables; levels = y.levels }) (sym (at_round a r x has.heard)) has.rest)
      | inr apart ↦
          subst (λ (y : Round). y ≡ record (round_in a s) { tables = y.tables; levels = y.levels }) (sym (at_other a r s x apart)) refl
    ]

-- a claim that changed a level, and one that changed none
pub Notes-claim : (a : AbaView) (r from : ℕ) (vote : Vote) (x : Round) → from < a.config.n → epoch_of vote ≡ a.epoch → IsClaim r vote → HasClaim a r from vote x
    → (x.levels ≡ (round_in a r).levels → ⊥) → Notes a (with_round a r x) (hearing from vote) (Some r)
Notes-claim a r from vote x inside epoch is has other = record {
  place = refl;
  known = has.heard.inside;
  shows = claim_shown a r from vote x inside epoch is has;
  resting = spares_resting r a (with_round a r x) (spared a r r x has.heard (λ low. absurd (omega (arith, low))) (λ low. absurd (omega (arith, low))));
  wakes = inl (λ same. other (sym (ap (λ (y : Round). y.levels) (at_round a r x has.heard)) ∙ same));
}

pub Notes-claim_less : (a : AbaView) (r from : ℕ) (vote : Vote) (x : Round) → from < a.config.n → epoch_of vote ≡ a.epoch → IsClaim r vote → HasClaim a r from vote x
    → levels_of a.config (count_in x.tables) 0 ≡ levels_of a.config (count_in (round_in a r).tables) 0
    → Notes a (with_round a r x) (hearing from vote) None
Notes-claim_less a r from vote x inside epoch is has levels = record {
  place = refl;
  known = tt;
  shows = claim_shown a r from vote x inside epoch is has;
  resting =
      spares_resting a.config.rounds a (with_round a r x)
      (spared a r a.config.rounds x has.heard (λ low. levels) (λ low. ap (λ (y : Round). y.coin) has.rest));
  wakes = tt;
}

-- ---- a share

-- what a round has after a share
pub record HasShare (a : AbaView) (r : ℕ) (share : HeardShare) (x : Round) : Type 0 where
  pub heard : IsHeardRound a r x
  pub is_round : IsRound a.config a.lane a.epoch r (round_in a r)
  pub after : x ≡ after_share (round_in a r) share

after_tables : (x : Round) (share : HeardShare) → (after_share x share).tables ≡ x.tables
after_tables x share = by (is_some x.coin)
  where
    by : (b : Bool) → (if b then x else record x { shares = with_offered x.shares share; coin = coin_from x.shares.f (with_offered x.shares share).added }).tables ≡ x.tables
    by true = refl
    by false = refl

-- the coin and the shares are those of what was heard, with this share
record ShowsCoin (c : Numbers) (e j r : ℕ) (heard : List Hearing) (x : Round) : Type 0 where
  shares : x.coin ≡ None → x.shares.added ≡ shares_in c e j r heard
  coin : x.coin ≡ coin_in c e j heard r

after_coin : (c : Numbers) (j e r : ℕ) (heard : List Hearing) (h : Hearing) (share : HeardShare) (x : Round) → IsRound c j e r x
    → share_in e r h.from h.vote ≡ Some share → ShowsCoin c e j r heard x → ShowsCoin c e j r (heard ++ h ∷ []) (after_share x share)
after_coin c j e r heard h share x is shown shows = by x.coin refl
  where
    known : (b : Bool) → x.coin ≡ Some b → ShowsCoin c e j r (heard ++ h ∷ []) x
    known b was = record {
      shares = λ none. absurd (cc (was, none));
      coin = was ∙ sym (coin_kept c e j r heard h b (sym shows.coin ∙ was));
    }

    added : x.coin ≡ None → with_heard x.shares.root x.shares.n x.shares.added share ≡ shares_in c e j r (heard ++ h ∷ [])
    added none =
        rw (is.root, is.n, shows.shares none) (sym (shares_one c e j r heard h share shown))

    fresh : x.coin ≡ None → ShowsCoin c e j r (heard ++ h ∷ []) (record x { shares = with_offered x.shares share; coin = coin_from x.shares.f (with_offered x.shares share).added })
    fresh none = record {
      shares = λ still. added none;
      coin = ap (λ (f : ℕ). coin_from f (with_heard x.shares.root x.shares.n x.shares.added share)) is.f ∙ ap (coin_from c.f) (added none);
    }

    by : (o : Option Bool) → x.coin ≡ o → ShowsCoin c e j r (heard ++ h ∷ []) (after_share x share)
    by None none =
        subst (λ (o : Option Bool). ShowsCoin c e j r (heard ++ h ∷ [])
        (if is_some o then x else record x { shares = with_offered x.shares share; coin = coin_from x.shares.f (with_offered x.shares share).added }))
        (sym none) (fresh none)
    by (Some b) some =
        subst (λ (o : Option Bool). ShowsCoin c e j r (heard ++ h ∷ [])
        (if is_some o then x else record x { shares = with_offered x.shares share; coin = coin_from x.shares.f (with_offered x.shares share).added }))
        (sym some) (known b some)

share_shown : (a : AbaView) (r from share : ℕ) (salt : List ℕ) (branch : Branch) (x : Round) → from < a.config.n → HasShare a r (heard_share from share salt branch) x
    → (own : List Vote) (heard : List Hearing) → Shows a own heard
    → Shows (with_round a r x) own (heard ++ hearing from (Coin a.epoch r share salt branch) ∷ [])
share_shown a r from share salt branch x inside has own heard shows = record {
  cast = λ mark below. mark_same a r x (omega (arith, has.heard.inside, has.heard.count)) has.heard.marks mark ∙ shows.cast mark below;
  said = λ claim below m.
      ap (λ t. is_in (voters_in t claim) m) (tables (claim_round claim)) ∙ shows.said claim below m
      ∙ sym (heard_by-none heard h m (makes a.epoch claim) (no_claim claim));
  shares = λ s below none. (coin_shown s below).shares none;
  coins = λ s below. (coin_shown s below).coin;
  no_more = shows.no_more ∙ sym (heard_by-none heard h a.node (is_no_more a.epoch) refl);
  nodes = nodes_now a.config.n heard h inside shows.nodes;
  few = shows.few;
}
  where
    h : Hearing
    h = hearing from (Coin a.epoch r share salt branch)

    no_claim : (claim : Claim) → makes a.epoch claim (Coin a.epoch r share salt branch) ≡ false
    no_claim (bvals t c) = refl
    no_claim (auxes t c) = refl
    no_claim (any_auxes t) = refl
    no_claim (confs t c) = refl
    no_claim (any_confs t) = refl
    no_claim (confs_with t c) = refl

    tables : (s : ℕ) → (round_in (with_round a r x) s).tables ≡ (round_in a s).tables
    tables s = elim (cases_eq s r) [
      | inl same ↦
          ap (λ (y : Round). y.tables) (ap (λ (k : ℕ). round_in (with_round a r x) k) same ∙ at_round a r x has.heard ∙ has.after)
          ∙ after_tables (round_in a r) (heard_share from share salt branch) ∙ ap (λ (k : ℕ). (round_in a k).tables) (sym same)
      | inr apart ↦ ap (λ (y : Round). y.tables) (at_other a r s x apart)
    ]

    old_shown : (s : ℕ) → s < a.config.rounds → ShowsCoin a.config a.epoch a.lane s heard (round_in a s)
    old_shown s below = record { shares = shows.shares s below; coin = shows.coins s below }

    coin_shown : (s : ℕ) → s < a.config.rounds → ShowsCoin a.config a.epoch a.lane s (heard ++ h ∷ []) (round_in (with_round a r x) s)
    coin_shown s below = elim (cases_eq s r) [
      | inl same ↦
          subst (λ (k : ℕ). ShowsCoin a.config a.epoch a.lane k (heard ++ h ∷ []) (round_in (with_round a r x) k)) (sym same)
          (subst (ShowsCoin a.config a.epoch a.lane r (heard ++ h ∷ [])) (sym (at_round a r x has.heard ∙ has.after))
          (after_coin a.config a.lane a.epoch r heard h (heard_share from share salt branch) (round_in a r) has.is_round
          (share_here a.epoch a.epoch r r from share salt branch refl refl) (old_shown r has.heard.inside)))
      | inr apart ↦
          subst (ShowsCoin a.config a.epoch a.lane s (heard ++ h ∷ [])) (sym (at_other a r s x apart))
          (record {
            shares = λ none.
                shows.shares s below none
                ∙ sym (shares_none a.config a.epoch a.lane s heard h (share_away a.epoch a.epoch r s from share salt branch (λ is. apart (sym is))));
            coin =
                shows.coins s below
                ∙ sym (ap (coin_from a.config.f)
                (shares_none a.config a.epoch a.lane s heard h (share_away a.epoch a.epoch r s from share salt branch (λ is. apart (sym is)))));
          })
    ]

pub Notes-share : (a : AbaView) (r from share : ℕ) (salt : List ℕ) (branch : Branch) (x : Round) → from < a.config.n → HasShare a r (heard_share from share salt branch) x
    → is_some x.coin ≡ true → (round_in a r).coin ≡ None → Notes a (with_round a r x) (hearing from (Coin a.epoch r share salt branch)) (Some r)
Notes-share a r from share salt branch x inside has known unknown = record {
  place = refl;
  known = has.heard.inside;
  shows = share_shown a r from share salt branch x inside has;
  resting = spares_resting r a (with_round a r x) (spared a r r x has.heard (λ low. absurd (omega (arith, low))) (λ low. absurd (omega (arith, low))));
  wakes = inr (inl (ap (λ (y : Round). is_some y.coin) (at_round a r x has.heard) ∙ known, unknown));
}

pub Notes-share_less : (a : AbaView) (r from share : ℕ) (salt : List ℕ) (branch : Branch) (x : Round) → from < a.config.n → HasShare a r (heard_share from share salt branch) x
    → x.coin ≡ (round_in a r).coin
    → Notes a (with_round a r x) (hearing from (Coin a.epoch r share salt branch)) None
Notes-share_less a r from share salt branch x inside has coin = record {
  place = refl;
  known = tt;
  shows = share_shown a r from share salt branch x inside has;
  resting =
      spares_resting a.config.rounds a (with_round a r x)
      (spared a r a.config.rounds x has.heard
      (λ low. ap (λ t. levels_of a.config (count_in t) 0) (ap (λ (y : Round). y.tables) has.after ∙ after_tables (round_in a r) (heard_share from share salt branch)))
      (λ low. coin));
  wakes = tt;
}

-- ---- hearings that the agreement does not take in

no_claim_of : (e r share : ℕ) (salt : List ℕ) (branch : Branch) (claim : Claim) → makes e claim (Coin e r share salt branch) ≡ false
no_claim_of e r share salt branch (bvals t c) = refl
no_claim_of e r share salt branch (auxes t c) = refl
no_claim_of e r share salt branch (any_auxes t) = refl
no_claim_of e r share salt branch (confs t c) = refl
no_claim_of e r share salt branch (any_confs t) = refl
no_claim_of e r share salt branch (confs_with t c) = refl

-- of a round that the run does not have
pub Notes-share_past : (a : AbaView) (r from share : ℕ) (salt : List ℕ) (branch : Branch) → from < a.config.n → a.config.rounds ≤ r
    → Notes a a (hearing from (Coin a.epoch r share salt branch)) None
Notes-share_past a r from share salt branch inside past = Notes-none a (hearing from (Coin a.epoch r share salt branch)) (record {
  from = inside;
  claims = λ claim below. no_claim_of a.epoch r share salt branch claim;
  share = λ s below. share_away a.epoch a.epoch r s from share salt branch (λ is. omega (arith, is, past, below));
  no_more = λ is. refl;
})

pub Notes-claim_past : (a : AbaView) (r from : ℕ) (vote : Vote) → from < a.config.n → IsClaim r vote → a.config.rounds ≤ r → Notes a a (hearing from vote) None
Notes-claim_past a r from vote inside is past = Notes-none a (hearing from vote) (record {
  from = inside;
  claims = λ claim below. makes_other a.epoch r vote claim is (λ same. omega (arith, same, past, below));
  share = λ s below. claim_shows_none a.epoch s r from vote is;
  no_more = λ h. claim_no_more a.epoch r vote is;
})

-- of another epoch
makes_epoch : (e : ℕ) (claim : Claim) (vote : Vote) → (epoch_of vote ≡ e → ⊥) → makes e claim vote ≡ false
makes_epoch e (bvals t c) (Bval d s b) apart = and_left (d == e) _ (ne_eqb d e apart)
makes_epoch e (auxes t c) (Aux d s b) apart = and_left (d == e) _ (ne_eqb d e apart)
makes_epoch e (any_auxes t) (Aux d s b) apart = and_left (d == e) _ (ne_eqb d e apart)
makes_epoch e (confs t c) (Conf d s vals) apart = and_left (d == e) _ (ne_eqb d e apart)
makes_epoch e (any_confs t) (Conf d s vals) apart = and_left (d == e) _ (ne_eqb d e apart)
makes_epoch e (confs_with t c) (Conf d s vals) apart = and_left (d == e) _ (ne_eqb d e apart)
makes_epoch e claim vote apart = refl

share_epoch : (e r m : ℕ) (vote : Vote) → (epoch_of vote ≡ e → ⊥) → share_in e r m vote ≡ None
share_epoch e r m (Coin d s share salt branch) apart =
    let no : ((d == e) && (s == r)) ≡ false = and_left (d == e) (s == r) (ne_eqb d e apart) in rw no refl
share_epoch e r m vote apart = refl

no_more_epoch : (e : ℕ) (vote : Vote) → (epoch_of vote ≡ e → ⊥) → is_no_more e vote ≡ false
no_more_epoch e (NoMore d) apart = ne_eqb d e apart
no_more_epoch e vote apart = refl

pub Notes-foreign : (a : AbaView) (from : ℕ) (vote : Vote) → from < a.config.n → (epoch_of vote ≡ a.epoch → ⊥) → Notes a a (hearing from vote) None
Notes-foreign a from vote inside apart = Notes-none a (hearing from vote) (record {
  from = inside;
  claims = λ claim below. makes_epoch a.epoch claim vote apart;
  share = λ s below. share_epoch a.epoch s from vote apart;
  no_more = λ h. no_more_epoch a.epoch vote apart;
})

-- of a kind that the agreement does not hear
pub record IsOther (vote : Vote) : Type 0 where
  pub claims : (e : ℕ) (claim : Claim) → makes e claim vote ≡ false
  pub share : (e r m : ℕ) → share_in e r m vote ≡ None
  pub no_more : (e : ℕ) → is_no_more e vote ≡ false

pub Notes-other : (a : AbaView) (from : ℕ) (vote : Vote) → from < a.config.n → IsOther vote → Notes a a (hearing from vote) None
Notes-other a from vote inside other = Notes-none a (hearing from vote) (record {
  from = inside;
  claims = λ claim below. other.claims a.epoch claim;
  share = λ s below. other.share a.epoch s from;
  no_more = λ h. other.no_more a.epoch;
})

-- of another node's desk
no_more_claim : (e d : ℕ) (claim : Claim) → makes e claim (NoMore d) ≡ false
no_more_claim e d (bvals t c) = refl
no_more_claim e d (auxes t c) = refl
no_more_claim e d (any_auxes t) = refl
no_more_claim e d (confs t c) = refl
no_more_claim e d (any_confs t) = refl
no_more_claim e d (confs_with t c) = refl

pub Notes-no_more_of : (a : AbaView) (from : ℕ) → from < a.config.n → (from ≡ a.node → ⊥) → Notes a a (hearing from (NoMore a.epoch)) None
Notes-no_more_of a from inside apart = Notes-none a (hearing from (NoMore a.epoch)) (record {
  from = inside;
  claims = λ claim below. no_more_claim a.epoch a.epoch claim;
  share = λ s below. refl;
  no_more = λ h. absurd (apart h);
})

-- a vote of no kind that the agreement hears
pub other_vote : (vote : Vote) → ((e r : ℕ) (b : Bool) → vote ≡ Bval e r b → ⊥) → ((e r : ℕ) (b : Bool) → vote ≡ Aux e r b → ⊥)
    → ((e r share : ℕ) (salt : List ℕ) (branch : Branch) → vote ≡ Coin e r share salt branch → ⊥) → ((e r : ℕ) (vals : Vals) → vote ≡ Conf e r vals → ⊥)
    → ((e : ℕ) → vote ≡ NoMore e → ⊥) → IsOther vote
other_vote (Bval e r b) no_bval no_aux no_coin no_conf no_end = absurd (no_bval e r b refl)
other_vote (Aux e r b) no_bval no_aux no_coin no_conf no_end = absurd (no_aux e r b refl)
other_vote (Coin e r share salt branch) no_bval no_aux no_coin no_conf no_end = absurd (no_coin e r share salt branch refl)
other_vote (Conf e r vals) no_bval no_aux no_coin no_conf no_end = absurd (no_conf e r vals refl)
other_vote (NoMore e) no_bval no_aux no_coin no_conf no_end = absurd (no_end e refl)
other_vote vote no_bval no_aux no_coin no_conf no_end = record { claims = by; share = λ e r m. refl; no_more = λ e. refl }
  where
    by : (e : ℕ) (claim : Claim) → makes e claim vote ≡ false
    by e (bvals t c) = refl
    by e (auxes t c) = refl
    by e (any_auxes t) = refl
    by e (confs t c) = refl
    by e (any_confs t) = refl
    by e (confs_with t c) = refl
