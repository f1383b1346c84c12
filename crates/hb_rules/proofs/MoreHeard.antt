-- What may be cast by some hearings may be cast by more.
use Rattle.std.proofs.Common.{ℕ, zero, suc, ◌≤◌, Bool, true, false, inl, inr, List, ◌++◌, Contains, arith}
use Rattle.std.proofs.lemmas.List.Elements.{All-weaker, Contains-append_left}
use Rattle.hb_base.specs.Numbers.{Numbers}
use Rattle.hb_wire.specs.declared.items.Item.{Item}
use Rattle.hb_wire.specs.declared.vote.Vals.{Vals}
use Rattle.hb_wire.specs.declared.vote.Vals.TheVariants.{Zero, One, Both}
use Rattle.hb_wire.specs.declared.vote.Vote.{Vote}
use Rattle.hb_wire.specs.declared.vote.Vote.TheVariants.{Est, Bval, Aux, Conf, Pick, Coin, Decided, Delivered, Propose, NoMore, Closed}
use Rattle.coin_deal.specs.Heard.{HeardShare}
use Rattle.hb_rules.specs.Claims.{is_decision, is_no_more}
use Rattle.hb_rules.specs.Hearing.{Hearing, hearing, heard_by, count_shown}
use Rattle.hb_rules.specs.Marks.{Claim, bvals, auxes, any_auxes, confs, any_confs, confs_with, support, makes}
use Rattle.hb_rules.specs.Coins.{share_count, is_share, hearing_of_share, HasCoin}
use Rattle.hb_rules.specs.Agreement.{IsGatheredOne, IsGathered, IsConfirmedOne, IsConfirmed, IsLeftWith, MayBegin, HasSettled, MayAgree, confirms}
use Rattle.hb_rules.specs.Desk.{IsAccepted, MayAtDesk}
use Rattle.hb_rules.specs.Parts.{Part, broadcast, agreement, desk, part_of}
use Rattle.hb_rules.specs.Rules.{MayInPart, MayCast}
use Rattle.hb_rules.specs.Terms.{AreAmong}
use Rattle.hb_rules.proofs.Among.{heard_by-among, MayBroadcast-among}
use Rattle.hb_rules.proofs.Counts.{count_nodes-mono}

-- what was heard is among what was heard, and more
pub AreAmong-more : (heard more : List Hearing) → AreAmong heard (heard ++ more)
AreAmong-more heard more = record { each = λ h stands. Contains-append_left heard more h stands }

count_shown-among : (n : ℕ) (test : Vote → Bool) (some all : List Hearing) → AreAmong some all
    → count_shown n (heard_by some) test ≤ count_shown n (heard_by all) test
count_shown-among n test some all among =
    count_nodes-mono n (λ a. heard_by some a test) (λ a. heard_by all a test) (λ a below h. heard_by-among some all a test among h)

-- ---- the agreement

support-among : (n e : ℕ) (claim : Claim) (some all : List Hearing) → AreAmong some all → support n e claim some ≤ support n e claim all
support-among n e claim some all among = count_shown-among n (makes e claim) some all among

share_count-among : (c : Numbers) (e j r : ℕ) (some all : List Hearing) → AreAmong some all → share_count c e j r some ≤ share_count c e j r all
share_count-among c e j r some all among =
    count_nodes-mono c.n (λ a. heard_by some a (is_share c e j r a)) (λ a. heard_by all a (is_share c e j r a))
    (λ a below h. heard_by-among some all a (is_share c e j r a) among h)

HasCoin-among : (c : Numbers) (e j r : ℕ) (some all : List Hearing) (bit : Bool) → AreAmong some all → HasCoin c e j r some bit → HasCoin c e j r all bit
HasCoin-among c e j r some all bit among coin = record {
  shares = coin.shares;
  choice = coin.choice;
  stand =
      All-weaker (λ (a : HeardShare). Contains some (hearing_of_share e r a)) (λ (a : HeardShare). Contains all (hearing_of_share e r a))
      (λ a stands. among.each (hearing_of_share e r a) stands) coin.shares coin.stand;
  coin = coin.coin;
}

one_gathered : (c : Numbers) (e r : ℕ) (b : Bool) (own : List Vote) (some all : List Hearing) → AreAmong some all
    → IsGatheredOne c e r b own some → IsGatheredOne c e r b own all
one_gathered c e r b own some all among gathered = record {
  entered = gathered.entered;
  supported = omega (arith, gathered.supported, support-among c.n e (bvals r b) some all among);
  accepted = omega (arith, gathered.accepted, support-among c.n e (auxes r b) some all among);
}

IsGathered-among : (c : Numbers) (e r : ℕ) (vals : Vals) (own : List Vote) (some all : List Hearing) → AreAmong some all
    → IsGathered c e r vals own some → IsGathered c e r vals own all
IsGathered-among c e r Zero own some all among gathered = one_gathered c e r false own some all among gathered
IsGathered-among c e r One own some all among gathered = one_gathered c e r true own some all among gathered
IsGathered-among c e r Both own some all among gathered = record {
  entered = gathered.entered;
  supported = λ b. omega (arith, gathered.supported b, support-among c.n e (bvals r b) some all among);
  each = λ b. omega (arith, gathered.each b, support-among c.n e (auxes r b) some all among);
  accepted = omega (arith, gathered.accepted, support-among c.n e (any_auxes r) some all among);
}

one_confirmed : (c : Numbers) (e r : ℕ) (b : Bool) (own : List Vote) (some all : List Hearing) → AreAmong some all
    → IsConfirmedOne c e r b own some → IsConfirmedOne c e r b own all
one_confirmed c e r b own some all among confirmed = record {
  entered = confirmed.entered;
  supported = omega (arith, confirmed.supported, support-among c.n e (bvals r b) some all among);
  confirmed = omega (arith, confirmed.confirmed, support-among c.n e (confs r b) some all among);
}

IsConfirmed-among : (c : Numbers) (e r : ℕ) (vals : Vals) (own : List Vote) (some all : List Hearing) → AreAmong some all
    → IsConfirmed c e r vals own some → IsConfirmed c e r vals own all
IsConfirmed-among c e r Zero own some all among confirmed = one_confirmed c e r false own some all among confirmed
IsConfirmed-among c e r One own some all among confirmed = one_confirmed c e r true own some all among confirmed
IsConfirmed-among c e r Both own some all among confirmed = record {
  entered = confirmed.entered;
  supported = λ b. omega (arith, confirmed.supported b, support-among c.n e (bvals r b) some all among);
  confirmed = omega (arith, confirmed.confirmed, support-among c.n e (any_confs r) some all among);
  each = λ b. omega (arith, confirmed.each b, support-among c.n e (confs_with r b) some all among);
}

IsLeftWith-among : (confirming : Bool) (c : Numbers) (e r : ℕ) (vals : Vals) (own : List Vote) (some all : List Hearing) → AreAmong some all
    → IsLeftWith confirming c e r vals own some → IsLeftWith confirming c e r vals own all
IsLeftWith-among false c e r vals own some all among left = IsGathered-among c e r vals own some all among left
IsLeftWith-among true c e r vals own some all among left = IsConfirmed-among c e r vals own some all among left

MayBegin-among : (c : Numbers) (i j e r : ℕ) (b : Bool) (own : List Vote) (some all : List Hearing) → AreAmong some all
    → MayBegin c i j e r b own some → MayBegin c i j e r b own all
MayBegin-among c i j e zero true own some all among may = may
MayBegin-among c i j e zero false own some all among may = heard_by-among some all i (is_no_more e) among may
MayBegin-among c i j e (suc r) b own some all among may = record {
  shares = omega (arith, may.shares, share_count-among c e j r some all among);
  picked = elim may.picked [
    | inl alone ↦ inl alone
    | inr both ↦ inr (both.0, HasCoin-among c e j r some all b among both.1)
  ];
}

HasSettled-among : (c : Numbers) (j e : ℕ) (b : Bool) (own : List Vote) (some all : List Hearing) → AreAmong some all
    → HasSettled c j e b own some → HasSettled c j e b own all
HasSettled-among c j e b own some all among settled = record {
  round = settled.round;
  known = settled.known;
  picked = settled.picked;
  shares = omega (arith, settled.shares, share_count-among c e j settled.round some all among);
  coin = HasCoin-among c e j settled.round some all b among settled.coin;
}

pub MayAgree-among : (c : Numbers) (i j : ℕ) (own : List Vote) (some all : List Hearing) (vote : Vote) → AreAmong some all
    → MayAgree c i j own some vote → MayAgree c i j own all vote
MayAgree-among c i j own some all (Est e r b) among may = (may.0, MayBegin-among c i j e r b own some all among may.1, may.2)
MayAgree-among c i j own some all (Bval e r b) among may = (
  may.0,
  elim may.1 [
    | inl estimate ↦ inl estimate
    | inr others ↦ inr (others.0, omega (arith, others.1, support-among c.n e (bvals r b) some all among))
  ],
  may.2,
)
MayAgree-among c i j own some all (Aux e r b) among may =
    (may.0, may.1, omega (arith, may.2, support-among c.n e (bvals r b) some all among), may.3)
MayAgree-among c i j own some all (Conf e r vals) among may =
    (may.0, may.1, IsGathered-among c e r vals own some all among may.2, may.3)
MayAgree-among c i j own some all (Pick e r vals) among may =
    (may.0, IsLeftWith-among (confirms c) c e r vals own some all among may.1, may.2)
MayAgree-among c i j own some all (Coin e r share salt branch) among may = may
MayAgree-among c i j own some all (Decided e b) among may = (HasSettled-among c j e b own some all among may.0, may.1)
MayAgree-among c i j own some all vote among may = absurd may

-- ---- the desk

IsAccepted-among : (c : Numbers) (e : ℕ) (some all : List Hearing) (list : List Item) → AreAmong some all
    → IsAccepted c e some list → IsAccepted c e all list
IsAccepted-among c e some all list among accepted = record {
  bits = accepted.bits;
  decided = λ j below. heard_by-among some all j (is_decision e (accepted.bits j)) among (accepted.decided j below);
  lanes = accepted.lanes;
  values =
      All-weaker (λ (item : Item). Contains some (hearing item.node (Delivered e item.value)))
      (λ (item : Item). Contains all (hearing item.node (Delivered e item.value)))
      (λ item stands. among.each (hearing item.node (Delivered e item.value)) stands) list accepted.values;
}

pub MayAtDesk-among : (c : Numbers) (own : List Vote) (some all : List Hearing) (vote : Vote) → AreAmong some all
    → MayAtDesk c own some vote → MayAtDesk c own all vote
MayAtDesk-among c own some all (Propose e value) among may = may
MayAtDesk-among c own some all (NoMore e) among may =
    (omega (arith, may.0, count_shown-among c.n (is_decision e true) some all among), may.1)
MayAtDesk-among c own some all (Closed e list) among may = (may.0, IsAccepted-among c e some all list among may.1, may.2)
MayAtDesk-among c own some all vote among may = absurd may

-- ---- all parts

in_part_among : (part : Part) (c : Numbers) (i j : ℕ) (own : List Vote) (some all : List Hearing) (vote : Vote) → AreAmong some all
    → MayInPart part c i j own some vote → MayInPart part c i j own all vote
in_part_among broadcast c i j own some all vote among may = MayBroadcast-among c i j own some all vote among may
in_part_among agreement c i j own some all vote among may = MayAgree-among c i j own some all vote among may
in_part_among desk c i j own some all vote among may = absurd may

pub MayCast-among : (c : Numbers) (i x : ℕ) (own : List Vote) (some all : List Hearing) (vote : Vote) → AreAmong some all
    → MayCast c i x own some vote → MayCast c i x own all vote
MayCast-among c i x own some all vote among (inl may) = inl (may.0, in_part_among (part_of vote) c i x own some all vote among may.1)
MayCast-among c i x own some all vote among (inr may) = inr (may.0, MayAtDesk-among c own some all vote among may.1)
