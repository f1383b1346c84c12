-- What stood behind a vote when it was cast stands behind it in the whole history.
use Rattle.std.proofs.Common.{◌≡◌, ℕ, suc, ◌+◌, ◌-◌, ◌*◌, ◌<◌, ◌≤◌, ◌⊎◌, ◌==◌, ◌&&◌, Bool, true, false, inl, inr, List, Some, ◌++◌, Contains, refl, sym, subst, arith}
use Rattle.std.proofs.lemmas.Bool.{and_parts}
use Rattle.hb_base.specs.Numbers.{Numbers, AreSound}
use Rattle.hb_base.specs.NodeSet.{is_in}
use Rattle.merkle_branch.specs.declared.Branch.{Branch}
use Rattle.merkle_branch.specs.Digests.{leaf_digests}
use Rattle.merkle_branch.specs.Branches.{branch_of}
use Rattle.coin_deal.specs.Deal.{share, salt, coin_leaves, dealt_coin}
use Rattle.coin_deal.specs.Heard.{heard_share}
use Rattle.hb_wire.specs.declared.vote.Vals.{Vals}
use Rattle.hb_wire.specs.declared.vote.Vals.TheVariants.{Zero, One, Both}
use Rattle.hb_wire.specs.declared.vote.Vote.{Vote}
use Rattle.hb_wire.specs.declared.vote.Vote.TheVariants.{Est, Bval, Aux, Conf, Pick, Coin, Decided, NoMore}
use Rattle.hb_wire.specs.declared.post.Post.{Post}
use Rattle.hb_rules.specs.Claims.{is_any_delivery, is_no_more}
use Rattle.hb_rules.specs.Hearing.{Hearing, hearing, round_of, heard_in, heard_by, own_in, said_in, count_shown}
use Rattle.hb_rules.specs.Marks.{single, has_bit, pick, bears, has, Claim, bvals, makes, support}
use Rattle.hb_rules.specs.Coins.{HasCoin}
use Rattle.hb_rules.specs.Agreement.{confirms, IsGathered, IsLeftWith}
use Rattle.hb_rules.specs.Rules.{MayCast}
use Rattle.hb_rules.specs.History.{IsLegal}
use Rattle.hb_rules.specs.Ledger.{IsCorrect}
use Rattle.hb_rules.specs.Strings.{NoCollision}
use Rattle.hb_rules.proofs.Among.{any_stands}
use Rattle.hb_rules.proofs.Counts.{count_nodes-mono}
use Rattle.hb_rules.proofs.Lists.{list_any-from}
use Rattle.hb_rules.proofs.Addressed.{AreAddressed}
use Rattle.hb_rules.proofs.Cast.{cast_stays, IsOfDesk-no_more, desk_cast, WasAllowed, was_allowed}
use Rattle.hb_rules.proofs.Said.{heard-said, said-stays}
use Rattle.aba_world.specs.Backing.{supporters}
use Rattle.aba_world.proofs.Votes.{pick-is, no_more-is, found_vote, makes-away, ballots}
use Rattle.aba_world.proofs.Coins.{coin_dealt}

-- ---- from the moment of a vote to the whole history

cast_later : (c : Numbers) (i x a y : ℕ) (history : List Post) (vote v : Vote) → (was : WasAllowed c i x history vote)
    → Contains (own_in c a y was.before) v → Contains (own_in c a y history) v
cast_later c i x a y history vote v was stands =
    subst (λ (posts : List Post). Contains (own_in c a y posts) v) (sym was.is) (cast_stays c a y was.before was.later v stands)

-- what a lane has heard, the lanes of its number have said
pub heard_support : (c : Numbers) (i j e : ℕ) (history : List Post) (claim : Claim) → AreAddressed c history → j < c.n → is_in c.liars i ≡ false
    → support c.n e claim (heard_in c i j history) ≤ count_shown c.n (said_in c j history) (makes e claim)
heard_support c i j e history claim addressed lane correct =
    count_nodes-mono c.n (λ a. heard_by (heard_in c i j history) a (makes e claim)) (λ a. said_in c j history a (makes e claim))
    (λ a below h. (heard-said c i j history addressed lane correct).grows a (makes e claim) (makes-away e claim) h)

said_support : (c : Numbers) (j e : ℕ) (before later : List Post) (claim : Claim)
    → count_shown c.n (said_in c j before) (makes e claim) ≤ count_shown c.n (said_in c j (before ++ later)) (makes e claim)
said_support c j e before later claim =
    count_nodes-mono c.n (λ a. said_in c j before a (makes e claim)) (λ a. said_in c j (before ++ later) a (makes e claim))
    (λ a below h. (said-stays c j before later).grows a (makes e claim) (makes-away e claim) h)

-- what it had heard when it cast a vote, they have said in the end
support_grows : (c : Numbers) (i j e : ℕ) (history : List Post) (vote : Vote) (claim : Claim) → j < c.n → is_in c.liars i ≡ false
    → (was : WasAllowed c i j history vote)
    → support c.n e claim (heard_in c i j was.before) ≤ count_shown c.n (said_in c j history) (makes e claim)
support_grows c i j e history vote claim lane correct was =
    subst (λ (posts : List Post). support c.n e claim (heard_in c i j was.before) ≤ count_shown c.n (said_in c j posts) (makes e claim)) (sym was.is)
    (omega (arith, heard_support c i j e was.before claim was.addressed lane correct, said_support c j e was.before was.later claim))

-- ---- Aux, Conf, Pick

gathered_with : (c : Numbers) (e r : ℕ) (vals : Vals) (b : Bool) (own : List Vote) (heard : List Hearing) → IsGathered c e r vals own heard
    → has_bit b vals ≡ true → 2 * c.f + 1 ≤ support c.n e (bvals r b) heard
gathered_with c e r Zero false own heard gathered h = gathered.supported
gathered_with c e r Zero true own heard gathered h = absurd (cc (h))
gathered_with c e r One false own heard gathered h = absurd (cc (h))
gathered_with c e r One true own heard gathered h = gathered.supported
gathered_with c e r Both b own heard gathered h = gathered.supported b

left_with : (confirming : Bool) (c : Numbers) (e r : ℕ) (vals : Vals) (b : Bool) (own : List Vote) (heard : List Hearing)
    → IsLeftWith confirming c e r vals own heard → has_bit b vals ≡ true → 2 * c.f + 1 ≤ support c.n e (bvals r b) heard
left_with false c e r vals b own heard left h = gathered_with c e r vals b own heard left h
left_with true c e r Zero false own heard left h = left.supported
left_with true c e r Zero true own heard left h = absurd (cc (h))
left_with true c e r One false own heard left h = absurd (cc (h))
left_with true c e r One true own heard left h = left.supported
left_with true c e r Both b own heard left h = left.supported b

left_alone : (confirming : Bool) (c : Numbers) (e r : ℕ) (b : Bool) (own : List Vote) (heard : List Hearing)
    → IsLeftWith confirming c e r (single b) own heard → c.n - c.f ≤ support c.n e (ballots confirming r b) heard
left_alone false c e r false own heard left = left.accepted
left_alone false c e r true own heard left = left.accepted
left_alone true c e r false own heard left = left.confirmed
left_alone true c e r true own heard left = left.confirmed

pub single-has : (b : Bool) → has_bit b (single b) ≡ true
single-has true = refl
single-has false = refl

pub aux_supported : (c : Numbers) (j e r i : ℕ) (b : Bool) (history : List Post) → IsLegal c history → is_in c.liars i ≡ false
    → Contains (own_in c i j history) (Aux e r b) → 2 * c.f + 1 ≤ supporters c history j e r b
aux_supported c j e r i b history legal correct stands =
    let was = was_allowed c i j correct history legal (Aux e r b) stands in
    elim was.may [
      | inl may ↦
          let enough : 2 * c.f + 1 ≤ support c.n e (bvals r b) (heard_in c i j was.before) = may.1.2 in
          omega (arith, enough, support_grows c i j e history (Aux e r b) (bvals r b) may.0 correct was)
      | inr may ↦ absurd may.1
    ]

pub conf_supported : (c : Numbers) (j e r i : ℕ) (vals : Vals) (b : Bool) (history : List Post) → IsLegal c history → is_in c.liars i ≡ false
    → Contains (own_in c i j history) (Conf e r vals) → has_bit b vals ≡ true → 2 * c.f + 1 ≤ supporters c history j e r b
conf_supported c j e r i vals b history legal correct stands among =
    let was = was_allowed c i j correct history legal (Conf e r vals) stands in
    elim was.may [
      | inl may ↦
          let enough = gathered_with c e r vals b (own_in c i j was.before) (heard_in c i j was.before) may.1.2 among in
          omega (arith, enough, support_grows c i j e history (Conf e r vals) (bvals r b) may.0 correct was)
      | inr may ↦ absurd may.1
    ]

pub pick_supported : (c : Numbers) (j e r i : ℕ) (vals : Vals) (b : Bool) (history : List Post) → IsLegal c history → is_in c.liars i ≡ false
    → Contains (own_in c i j history) (Pick e r vals) → has_bit b vals ≡ true → 2 * c.f + 1 ≤ supporters c history j e r b
pick_supported c j e r i vals b history legal correct stands among =
    let was = was_allowed c i j correct history legal (Pick e r vals) stands in
    elim was.may [
      | inl may ↦
          let enough = left_with (confirms c) c e r vals b (own_in c i j was.before) (heard_in c i j was.before) may.1.1 among in
          omega (arith, enough, support_grows c i j e history (Pick e r vals) (bvals r b) may.0 correct was)
      | inr may ↦ absurd may.1
    ]

pub pick_balloted : (c : Numbers) (j e r i : ℕ) (b : Bool) (history : List Post) → IsLegal c history → is_in c.liars i ≡ false
    → Contains (own_in c i j history) (Pick e r (single b))
    → c.n - c.f ≤ count_shown c.n (said_in c j history) (makes e (ballots (confirms c) r b))
pick_balloted c j e r i b history legal correct stands =
    let was = was_allowed c i j correct history legal (Pick e r (single b)) stands in
    elim was.may [
      | inl may ↦
          let enough = left_alone (confirms c) c e r b (own_in c i j was.before) (heard_in c i j was.before) may.1.1 in
          omega (arith, enough, support_grows c i j e history (Pick e r (single b)) (ballots (confirms c) r b) may.0 correct was)
      | inr may ↦ absurd may.1
    ]

-- ---- rounds and shares

round_known : (c : Numbers) (i x r : ℕ) (own : List Vote) (heard : List Hearing) (vote : Vote) → MayCast c i x own heard vote
    → round_of vote ≡ Some r → r < c.rounds
round_known c i x r own heard (Est e s b) (inl may) h = subst (λ (k : ℕ). k < c.rounds) (let same : s ≡ r = cc (h) in same) may.1.0
round_known c i x r own heard (Bval e s b) (inl may) h = subst (λ (k : ℕ). k < c.rounds) (let same : s ≡ r = cc (h) in same) may.1.0
round_known c i x r own heard (Aux e s b) (inl may) h = subst (λ (k : ℕ). k < c.rounds) (let same : s ≡ r = cc (h) in same) may.1.0
round_known c i x r own heard (Conf e s vals) (inl may) h = subst (λ (k : ℕ). k < c.rounds) (let same : s ≡ r = cc (h) in same) may.1.0
round_known c i x r own heard (Pick e s vals) (inl may) h = subst (λ (k : ℕ). k < c.rounds) (let same : s ≡ r = cc (h) in same) may.1.0
round_known c i x r own heard (Coin e s share salt branch) (inl may) h =
    subst (λ (k : ℕ). k < c.rounds) (let same : s ≡ r = cc (h) in same) may.1.0
round_known c i x r own heard (Est e s b) (inr may) h = absurd may.1
round_known c i x r own heard (Bval e s b) (inr may) h = absurd may.1
round_known c i x r own heard (Aux e s b) (inr may) h = absurd may.1
round_known c i x r own heard (Conf e s vals) (inr may) h = absurd may.1
round_known c i x r own heard (Pick e s vals) (inr may) h = absurd may.1
round_known c i x r own heard (Coin e s share salt branch) (inr may) h = absurd may.1
round_known c i x r own heard vote may h = absurd (cc (h))

pub round_of_run : (c : Numbers) (j i r : ℕ) (vote : Vote) (history : List Post) → IsLegal c history → is_in c.liars i ≡ false
    → Contains (own_in c i j history) vote → round_of vote ≡ Some r → r < c.rounds
round_of_run c j i r vote history legal correct stands about =
    let was = was_allowed c i j correct history legal vote stands in
    round_known c i j r (own_in c i j was.before) (heard_in c i j was.before) vote was.may about

pub share_dealt : (c : Numbers) (j e r i dealt_share : ℕ) (dealt_salt : List ℕ) (branch : Branch) (history : List Post) → IsLegal c history
    → is_in c.liars i ≡ false → Contains (own_in c i j history) (Coin e r dealt_share dealt_salt branch)
    → heard_share i dealt_share dealt_salt branch
    ≡ heard_share i (share c e j r i) (salt c e j r i) (branch_of (leaf_digests (coin_leaves c e j r)) i)
share_dealt c j e r i dealt_share dealt_salt branch history legal correct stands =
    let was = was_allowed c i j correct history legal (Coin e r dealt_share dealt_salt branch) stands in
    elim was.may [
      | inl may ↦ rw (may.1.1, may.1.2, may.1.3) refl
      | inr may ↦ absurd may.1
    ]

-- ---- Est and Decided

-- the coin of a round that the lane had heard at some moment
pub record HadCoin (c : Numbers) (history : List Post) (j e r i : ℕ) (b : Bool) : Type 0 where
  pub vote : Vote
  pub was : WasAllowed c i j history vote
  pub lane : j < c.n
  pub coin : HasCoin c e j r (heard_in c i j was.before) b

pub had_dealt : (c : Numbers) (history : List Post) (j e r i : ℕ) (b : Bool) → AreSound c → IsCorrect c i → NoCollision c history
    → HadCoin c history j e r i b → b ≡ dealt_coin c e j r
had_dealt c history j e r i b sound correct premise had =
    coin_dealt c i j e r b had.was.before had.was.later sound had.lane correct
    (subst (NoCollision c) had.was.is premise) had.coin

-- A lane goes on from a round with a bit: it is left with the bit alone, or with both bits, and the coin is the bit.
pub record WentOn (c : Numbers) (history : List Post) (j e r i : ℕ) (b : Bool) : Type 0 where
  pub lane : j < c.n
  pub picked : Contains (own_in c i j history) (Pick e r (single b))
      ⊎ (Contains (own_in c i j history) (Pick e r Both) × HadCoin c history j e r i b)

pick_later : (c : Numbers) (i j e r : ℕ) (vals : Vals) (history : List Post) (vote : Vote) → (was : WasAllowed c i j history vote)
    → has e (pick r vals) (own_in c i j was.before) ≡ true → Contains (own_in c i j history) (Pick e r vals)
pick_later c i j e r vals history vote was h =
    cast_later c i j i j history vote (Pick e r vals) was
    (found_vote (own_in c i j was.before) (bears e (pick r vals)) (Pick e r vals) (pick-is e r vals) h)

pub went_on : (c : Numbers) (j e r i : ℕ) (b : Bool) (history : List Post) → IsLegal c history → is_in c.liars i ≡ false
    → Contains (own_in c i j history) (Est e (suc r) b) → WentOn c history j e r i b
went_on c j e r i b history legal correct stands =
    let was = was_allowed c i j correct history legal (Est e (suc r) b) stands in
    elim was.may [
      | inl may ↦ record {
        lane = may.0;
        picked = elim may.1.1.picked [
          | inl alone ↦ inl (pick_later c i j e r (single b) history (Est e (suc r) b) was alone)
          | inr both ↦ inr (
            pick_later c i j e r Both history (Est e (suc r) b) was both.0,
            record { vote = Est e (suc r) b; was = was; lane = may.0; coin = both.1 },
          )
        ];
      }
      | inr may ↦ absurd may.1
    ]

-- a decision's round: the lane was left with the bit alone, and the coin is the bit
pub record WasDecided (c : Numbers) (history : List Post) (j e i : ℕ) (b : Bool) : Type 0 where
  pub round : ℕ
  pub known : round < c.rounds
  pub picked : Contains (own_in c i j history) (Pick e round (single b))
  pub coin : HadCoin c history j e round i b

pub was_decided : (c : Numbers) (j e i : ℕ) (b : Bool) (history : List Post) → IsLegal c history → is_in c.liars i ≡ false
    → Contains (own_in c i j history) (Decided e b) → WasDecided c history j e i b
was_decided c j e i b history legal correct stands =
    let was = was_allowed c i j correct history legal (Decided e b) stands in
    elim was.may [
      | inl may ↦ record {
        round = may.1.0.round;
        known = may.1.0.known;
        picked = pick_later c i j e may.1.0.round (single b) history (Decided e b) was may.1.0.picked;
        coin = record { vote = Decided e b; was = was; lane = may.0; coin = may.1.0.coin };
      }
      | inr may ↦ absurd may.1
    ]

pub began_delivered : (c : Numbers) (j e i : ℕ) (history : List Post) → IsLegal c history → is_in c.liars i ≡ false
    → Contains (own_in c i j history) (Est e 0 true) → said_in c j history i (is_any_delivery e) ≡ true
began_delivered c j e i history legal correct stands =
    let was = was_allowed c i j correct history legal (Est e 0 true) stands in
    elim was.may [
      | inl may ↦
          let found = any_stands (is_any_delivery e) (own_in c i j was.before) may.1.1 in
          list_any-from (is_any_delivery e) (own_in c i j history) found.0
          (cast_later c i j i j history (Est e 0 true) found.0 was found.1) found.2
      | inr may ↦ absurd may.1
    ]

pub began_unwanted : (c : Numbers) (j e i : ℕ) (history : List Post) → IsLegal c history → is_in c.liars i ≡ false
    → Contains (own_in c i j history) (Est e 0 false) → Contains (own_in c i c.n history) (NoMore e)
began_unwanted c j e i history legal correct stands =
    let was = was_allowed c i j correct history legal (Est e 0 false) stands in
    elim was.may [
      | inl may ↦
          let passes : Hearing → Bool = λ h. (h.from == i) && is_no_more e h.vote in
          let found = any_stands passes (heard_in c i j was.before) may.1.1 in
          let parts = and_parts (found.0.from == i) (is_no_more e found.0.vote) found.2 in
          let heard : Contains (heard_in c i j was.before) (hearing found.0.from (NoMore e)) =
          subst (λ (v : Vote). Contains (heard_in c i j was.before) (hearing found.0.from v)) (no_more-is e found.0.vote parts.1) found.1 in
          cast_later c i j i c.n history (Est e 0 false) (NoMore e) was
          (desk_cast c i j found.0.from (NoMore e) was.before (IsOfDesk-no_more c.n e) heard)
      | inr may ↦ absurd may.1
    ]
