-- What a lane or a desk may cast by what it has heard, it may cast by those hearings alone at which the rule looks. The letters: actor
-- x of node i casts, a is a node, e an epoch, r a round.
use Rattle.std.proofs.Common.{◌≡◌, ℕ, zero, suc, ◌≤◌, nat_lt, Bool, true, false, ◌&&◌, ◌==◌, inl, inr, List, [], Contains, Option, None, Some, if◌then◌else◌, refl, ap, ap₂, ◌∙◌, arith}
use Rattle.std.proofs.lemmas.Bool.{and_parts, eqb-true}
use Rattle.std.proofs.lemmas.List.Elements.{All-weaker, All-contains, All-contains_itself}
use Rattle.hb_base.specs.Numbers.{Numbers}
use Rattle.merkle_branch.specs.Branches.{is_branch}
use Rattle.coin_deal.specs.Deal.{coin_root}
use Rattle.coin_deal.specs.Heard.{HeardShare, IsGood, is_good_share}
use Rattle.coin_deal.proofs.Shares.{is_good-from}
use Rattle.hb_wire.specs.declared.items.Item.{Item}
use Rattle.hb_wire.specs.declared.vote.Vals.{Vals}
use Rattle.hb_wire.specs.declared.vote.Vals.TheVariants.{Zero, One, Both}
use Rattle.hb_wire.specs.declared.vote.Vote.{Vote}
use Rattle.hb_wire.specs.declared.vote.Vote.TheVariants.{Val, Echo, Ready, Delivered, Est, Bval, Aux, Conf, Pick, Coin, Decided, Propose, NoMore, Closed}
use Rattle.hb_rules.specs.Agreement.{IsGatheredOne, IsGathered, IsConfirmedOne, IsConfirmed, IsLeftWith, MayBegin, HasSettled, MayAgree, confirms}
use Rattle.hb_rules.specs.Broadcast.{MayBroadcast}
use Rattle.hb_rules.specs.Claims.{echoed, readied, decided, are_these, has_root, has_both, same_bit, is_bit, is_echo, is_shard_echo, is_ready, is_decision, is_no_more}
use Rattle.hb_rules.specs.Code.{data_count, AreEchoed, echo_count, ready_count}
use Rattle.hb_rules.specs.Coins.{share_count, is_share, hearing_of_share, HasCoin}
use Rattle.hb_rules.specs.Desk.{MayAtDesk}
use Rattle.hb_rules.specs.Hearing.{Hearing, hearing, heard_by, count_shown}
use Rattle.hb_rules.specs.Marks.{Claim, bvals, auxes, any_auxes, confs, any_confs, confs_with, support, makes, single, same_vals, has_bit}
use Rattle.hb_rules.specs.Parts.{Part, broadcast, agreement, desk, part_of}
use Rattle.hb_rules.specs.Rules.{MayInPart, MayCast}
use Rattle.hb_rules.proofs.Among.{any_stands}
use Rattle.hb_rules.proofs.Counts.{count_nodes-mono}
use Rattle.hb_rules.proofs.Lists.{list_any-from, Contains-first}
use Rattle.post_judge.specs.declared.place.Place.{Place}
use Rattle.post_judge.specs.declared.place.Topic.TheVariants as topics
use Rattle.post_judge.specs.Places.{place, heard_place, counts, looked_at}
use Rattle.post_judge.proofs.Rounds.{share_place}

-- of all hearings some have those that count at a place
pub record AreKept (c : Numbers) (i x : ℕ) (p : Place) (all some : List Hearing) : Type 0 where
  pub each : (h : Hearing) → Contains all h → counts c h.from x h.vote ≡ true → heard_place i x h.vote ≡ Some p → Contains some h

-- a vote counts, and is heard at this place
pub record IsAt (c : Numbers) (i x a : ℕ) (p : Place) (vote : Vote) : Type 0 where
  pub counted : counts c a x vote ≡ true
  pub place : heard_place i x vote ≡ Some p

-- ---- tests that only such votes pass

pub has_some : (o : Option (List ℕ × List ℕ)) (root : List ℕ) → has_root root o ≡ true → (part : List ℕ × List ℕ) × (o ≡ Some part)
has_some None root h = absurd (cc (h))
has_some (Some part) root h = (part, refl)

both_some : (o : Option (List ℕ × List ℕ)) (root shard : List ℕ) → has_both root shard o ≡ true → (part : List ℕ × List ℕ) × (o ≡ Some part)
both_some None root shard h = absurd (cc (h))
both_some (Some part) root shard h = (part, refl)

pub these_some : (o : Option (List ℕ)) (bytes : List ℕ) → are_these bytes o ≡ true → (found : List ℕ) × (o ≡ Some found)
these_some None bytes h = absurd (cc (h))
these_some (Some found) bytes h = (found, refl)

pub bit_some : (o : Option Bool) (bit : Bool) → is_bit bit o ≡ true → (found : Bool) × (o ≡ Some found)
bit_some None bit h = absurd (cc (h))
bit_some (Some found) bit h = (found, refl)

chosen : {A : Type 0} (b : Bool) (x y : A) → (if b then Some x else None) ≡ Some y → b ≡ true
chosen true x y h = refl
chosen false x y h = absurd (cc (h))

pub echoed_at : (c : Numbers) (i x a e : ℕ) (vote : Vote) (part : List ℕ × List ℕ) → echoed c.n e a vote ≡ Some part
    → IsAt c i x a (place topics.Spread x e 0) vote
echoed_at c i x a e (Echo d root shard branch) part h =
    let parts = and_parts (d == e) (nat_lt a c.n && is_branch root c.n a shard branch)
    (chosen ((d == e) && (nat_lt a c.n && is_branch root c.n a shard branch)) (root, shard) part h) in
    record { counted = parts.1; place = ap (λ (k : ℕ). Some (place topics.Spread x k 0)) (eqb-true d e parts.0) }
echoed_at c i x a e vote part h = absurd (cc (h))

pub readied_at : (c : Numbers) (i x a e : ℕ) (vote : Vote) (root : List ℕ) → readied e vote ≡ Some root → IsAt c i x a (place topics.Spread x e 0) vote
readied_at c i x a e (Ready d other) root h =
    record { counted = refl; place = ap (λ (k : ℕ). Some (place topics.Spread x k 0)) (eqb-true d e (chosen (d == e) other root h)) }
readied_at c i x a e vote root h = absurd (cc (h))

pub decided_at : (c : Numbers) (i x a e : ℕ) (vote : Vote) (bit : Bool) → decided e vote ≡ Some bit → IsAt c i x a (place topics.FromLanes i e 0) vote
decided_at c i x a e (Decided d other) bit h =
    record { counted = refl; place = ap (λ (k : ℕ). Some (place topics.FromLanes i k 0)) (eqb-true d e (chosen (d == e) other bit h)) }
decided_at c i x a e vote bit h = absurd (cc (h))

pub no_more_at : (c : Numbers) (i x a e : ℕ) (vote : Vote) → is_no_more e vote ≡ true → IsAt c i x a (place topics.FromDesk i e 0) vote
no_more_at c i x a e (NoMore d) h = record { counted = refl; place = ap (λ (k : ℕ). Some (place topics.FromDesk i k 0)) (eqb-true d e h) }
no_more_at c i x a e vote h = absurd (cc (h))

-- the round of a claim
abbrev round_at : Claim → ℕ
round_at (bvals r b) = r
round_at (auxes r b) = r
round_at (any_auxes r) = r
round_at (confs r b) = r
round_at (any_confs r) = r
round_at (confs_with r b) = r

claimed : (x d e s r : ℕ) → (d == e) ≡ true → (s == r) ≡ true → Some (place topics.Claimed x d s) ≡ Some (place topics.Claimed x e r)
claimed x d e s r epoch round = ap₂ (λ (k l : ℕ). Some (place topics.Claimed x k l)) (eqb-true d e epoch) (eqb-true s r round)

claimed_at : (c : Numbers) (i x a e : ℕ) (claim : Claim) (vote : Vote) → makes e claim vote ≡ true
    → IsAt c i x a (place topics.Claimed x e (round_at claim)) vote
claimed_at c i x a e (bvals r b) (Bval d s bit) h =
    let parts = and_parts (d == e) ((s == r) && same_bit bit b) h in
    record { counted = refl; place = claimed x d e s r parts.0 (and_parts (s == r) (same_bit bit b) parts.1).0 }
claimed_at c i x a e (bvals r b) vote h = absurd (cc (h))
claimed_at c i x a e (auxes r b) (Aux d s bit) h =
    let parts = and_parts (d == e) ((s == r) && same_bit bit b) h in
    record { counted = refl; place = claimed x d e s r parts.0 (and_parts (s == r) (same_bit bit b) parts.1).0 }
claimed_at c i x a e (auxes r b) vote h = absurd (cc (h))
claimed_at c i x a e (any_auxes r) (Aux d s bit) h =
    let parts = and_parts (d == e) (s == r) h in
    record { counted = refl; place = claimed x d e s r parts.0 parts.1 }
claimed_at c i x a e (any_auxes r) vote h = absurd (cc (h))
claimed_at c i x a e (confs r b) (Conf d s vals) h =
    let parts = and_parts (d == e) ((s == r) && same_vals vals (single b)) h in
    record { counted = refl; place = claimed x d e s r parts.0 (and_parts (s == r) (same_vals vals (single b)) parts.1).0 }
claimed_at c i x a e (confs r b) vote h = absurd (cc (h))
claimed_at c i x a e (any_confs r) (Conf d s vals) h =
    let parts = and_parts (d == e) (s == r) h in
    record { counted = refl; place = claimed x d e s r parts.0 parts.1 }
claimed_at c i x a e (any_confs r) vote h = absurd (cc (h))
claimed_at c i x a e (confs_with r b) (Conf d s vals) h =
    let parts = and_parts (d == e) ((s == r) && has_bit b vals) h in
    record { counted = refl; place = claimed x d e s r parts.0 (and_parts (s == r) (has_bit b vals) parts.1).0 }
claimed_at c i x a e (confs_with r b) vote h = absurd (cc (h))

shared_at : (c : Numbers) (i x a e r : ℕ) (vote : Vote) → is_share c e x r a vote ≡ true → IsAt c i x a (place topics.Shared x e r) vote
shared_at c i x a e r (Coin d s share salt branch) h =
    let parts = and_parts (d == e) ((s == r) && is_good_share c e x r a share salt branch) h in
    let inner = and_parts (s == r) (is_good_share c e x r a share salt branch) parts.1 in
    let epoch : d ≡ e = eqb-true d e parts.0 in
    let round : s ≡ r = eqb-true s r inner.0 in
    record {
      counted = ap₂ (λ (k l : ℕ). is_good_share c k x l a share salt branch) epoch round ∙ inner.1;
      place = ap₂ (λ (k l : ℕ). Some (place topics.Shared x k l)) epoch round;
    }
shared_at c i x a e r vote h = absurd (cc (h))

-- ---- rules

module _ (c : Numbers) (i x : ℕ) (all some : List Hearing) where
  kept_by : (p : Place) → AreKept c i x p all some → (a : ℕ) (test : Vote → Bool) → ((vote : Vote) → test vote ≡ true → IsAt c i x a p vote)
      → heard_by all a test ≡ true → heard_by some a test ≡ true
  kept_by p kept a test at h =
      let passes : Hearing → Bool = λ g. (g.from == a) && test g.vote in
      let found = any_stands passes all h in
      let parts = and_parts (found.0.from == a) (test found.0.vote) found.2 in
      let there = at found.0.vote parts.1 in
      let counted : counts c found.0.from x found.0.vote ≡ true =
      ap (λ (b : ℕ). counts c b x found.0.vote) (eqb-true found.0.from a parts.0) ∙ there.counted in
      list_any-from passes some found.0 (kept.each found.0 found.1 counted there.place) found.2

  -- ---- the broadcast

  echoes_kept : (e : ℕ) (root : List ℕ) → AreKept c i x (place topics.Spread x e 0) all some
      → echo_count c.n e root (heard_by all) ≤ echo_count c.n e root (heard_by some)
  echoes_kept e root kept =
      count_nodes-mono c.n (λ a. heard_by all a (is_echo c.n e root a)) (λ a. heard_by some a (is_echo c.n e root a))
      (λ a below h. kept_by (place topics.Spread x e 0) kept a (is_echo c.n e root a)
      (λ vote passes. let part = has_some (echoed c.n e a vote) root passes in echoed_at c i x a e vote part.0 part.1) h)

  readies_kept : (e : ℕ) (root : List ℕ) → AreKept c i x (place topics.Spread x e 0) all some
      → ready_count c.n e root (heard_by all) ≤ ready_count c.n e root (heard_by some)
  readies_kept e root kept =
      count_nodes-mono c.n (λ a. heard_by all a (is_ready e root)) (λ a. heard_by some a (is_ready e root))
      (λ a below h. kept_by (place topics.Spread x e 0) kept a (is_ready e root)
      (λ vote passes. let found = these_some (readied e vote) root passes in readied_at c i x a e vote found.0 found.1) h)

  echoed_kept : (e : ℕ) (root : List ℕ) (shards : List (List ℕ)) → AreKept c i x (place topics.Spread x e 0) all some
      → AreEchoed c.n (data_count c) e root (heard_by all) shards → AreEchoed c.n (data_count c) e root (heard_by some) shards
  echoed_kept e root shards kept echoed_all = record {
    got = echoed_all.got;
    echoes = record {
      enough = echoed_all.echoes.enough;
      shards = echoed_all.echoes.shards;
      each =
          All-weaker (λ (g : ℕ × List ℕ). heard_by all g.0 (is_shard_echo c.n e root g.0 g.1) ≡ true)
          (λ (g : ℕ × List ℕ). heard_by some g.0 (is_shard_echo c.n e root g.0 g.1) ≡ true)
          (λ g h. kept_by (place topics.Spread x e 0) kept g.0 (is_shard_echo c.n e root g.0 g.1)
          (λ vote passes. let part = both_some (echoed c.n e g.0 vote) root g.1 passes in echoed_at c i x g.0 e vote part.0 part.1) h)
          echoed_all.got echoed_all.echoes.each;
    };
    rebuilt = echoed_all.rebuilt;
    root_is = echoed_all.root_is;
  }

  broadcast_kept : (own : List Vote) (vote : Vote) → ((p : Place) → Contains (looked_at c i x vote) p → AreKept c i x p all some)
      → MayBroadcast c i x own all vote → MayBroadcast c i x own some vote
  broadcast_kept own (Val e m root shard branch) kept may = (
    may.0,
    record {
      value = may.1.value;
      proposed = (kept (place topics.FromDesk i e 0) (Contains-first (place topics.FromDesk i e 0) [])).each (hearing i (Propose e may.1.value)) may.1.proposed refl refl;
      coded = may.1.coded;
    },
    may.2,
  )
  broadcast_kept own (Echo e root shard branch) kept may = (
    (kept (place topics.Handed x e i) (Contains-first (place topics.Handed x e i) [])).each (hearing x (Val e i root shard branch)) may.0 refl refl,
    may.1,
    may.2,
  )
  broadcast_kept own (Ready e root) kept may =
      let there = kept (place topics.Spread x e 0) (Contains-first (place topics.Spread x e 0) []) in (
        elim may.0 [
          | inl quorum ↦ inl (record {
            echoes = omega (arith, quorum.echoes, echoes_kept e root there);
            shards = quorum.shards;
            echoed = echoed_kept e root quorum.shards there quorum.echoed;
          })
          | inr readies ↦ inr (omega (arith, readies, readies_kept e root there))
        ],
        may.1,
      )
  broadcast_kept own (Delivered e value) kept may =
      let there = kept (place topics.Spread x e 0) (Contains-first (place topics.Spread x e 0) []) in (
        record {
          root = may.0.root;
          readies = omega (arith, may.0.readies, readies_kept e may.0.root there);
          shards = may.0.shards;
          echoed = echoed_kept e may.0.root may.0.shards there may.0.echoed;
          value_is = may.0.value_is;
        },
        may.1,
      )
  broadcast_kept own vote kept may = absurd may

  -- ---- the agreement

  support_kept : (e : ℕ) (claim : Claim) → AreKept c i x (place topics.Claimed x e (round_at claim)) all some
      → support c.n e claim all ≤ support c.n e claim some
  support_kept e claim kept =
      count_nodes-mono c.n (λ a. heard_by all a (makes e claim)) (λ a. heard_by some a (makes e claim))
      (λ a below h. kept_by (place topics.Claimed x e (round_at claim)) kept a (makes e claim) (λ vote passes. claimed_at c i x a e claim vote passes) h)

  shares_kept : (e r : ℕ) → AreKept c i x (place topics.Shared x e r) all some → share_count c e x r all ≤ share_count c e x r some
  shares_kept e r kept =
      count_nodes-mono c.n (λ a. heard_by all a (is_share c e x r a)) (λ a. heard_by some a (is_share c e x r a))
      (λ a below h. kept_by (place topics.Shared x e r) kept a (is_share c e x r a) (λ vote passes. shared_at c i x a e r vote passes) h)

  coin_kept : (e r : ℕ) (bit : Bool) → AreKept c i x (place topics.Shared x e r) all some → HasCoin c e x r all bit → HasCoin c e x r some bit
  coin_kept e r bit kept coin = record {
    shares = coin.shares;
    choice = coin.choice;
    stand =
        All-weaker (λ (a : HeardShare). Contains coin.shares a) (λ (a : HeardShare). Contains some (hearing_of_share e r a))
        (λ a there. kept.each (hearing_of_share e r a)
        (All-contains (λ (a : HeardShare). Contains all (hearing_of_share e r a)) coin.shares a coin.stand there)
        (is_good-from (coin_root c e x r) c.n a (All-contains (IsGood (coin_root c e x r) c.n) coin.shares a coin.choice.good.good there)) refl)
        coin.shares (All-contains_itself coin.shares);
    coin = coin.coin;
  }

  one_gathered : (e r : ℕ) (b : Bool) (own : List Vote) → AreKept c i x (place topics.Claimed x e r) all some
      → IsGatheredOne c e r b own all → IsGatheredOne c e r b own some
  one_gathered e r b own kept gathered = record {
    entered = gathered.entered;
    supported = omega (arith, gathered.supported, support_kept e (bvals r b) kept);
    accepted = omega (arith, gathered.accepted, support_kept e (auxes r b) kept);
  }

  gathered_kept : (e r : ℕ) (vals : Vals) (own : List Vote) → AreKept c i x (place topics.Claimed x e r) all some
      → IsGathered c e r vals own all → IsGathered c e r vals own some
  gathered_kept e r Zero own kept gathered = one_gathered e r false own kept gathered
  gathered_kept e r One own kept gathered = one_gathered e r true own kept gathered
  gathered_kept e r Both own kept gathered = record {
    entered = gathered.entered;
    supported = λ b. omega (arith, gathered.supported b, support_kept e (bvals r b) kept);
    each = λ b. omega (arith, gathered.each b, support_kept e (auxes r b) kept);
    accepted = omega (arith, gathered.accepted, support_kept e (any_auxes r) kept);
  }

  one_confirmed : (e r : ℕ) (b : Bool) (own : List Vote) → AreKept c i x (place topics.Claimed x e r) all some
      → IsConfirmedOne c e r b own all → IsConfirmedOne c e r b own some
  one_confirmed e r b own kept confirmed = record {
    entered = confirmed.entered;
    supported = omega (arith, confirmed.supported, support_kept e (bvals r b) kept);
    confirmed = omega (arith, confirmed.confirmed, support_kept e (confs r b) kept);
  }

  confirmed_kept : (e r : ℕ) (vals : Vals) (own : List Vote) → AreKept c i x (place topics.Claimed x e r) all some
      → IsConfirmed c e r vals own all → IsConfirmed c e r vals own some
  confirmed_kept e r Zero own kept confirmed = one_confirmed e r false own kept confirmed
  confirmed_kept e r One own kept confirmed = one_confirmed e r true own kept confirmed
  confirmed_kept e r Both own kept confirmed = record {
    entered = confirmed.entered;
    supported = λ b. omega (arith, confirmed.supported b, support_kept e (bvals r b) kept);
    confirmed = omega (arith, confirmed.confirmed, support_kept e (any_confs r) kept);
    each = λ b. omega (arith, confirmed.each b, support_kept e (confs_with r b) kept);
  }

  left_kept : (confirming : Bool) (e r : ℕ) (vals : Vals) (own : List Vote) → AreKept c i x (place topics.Claimed x e r) all some
      → IsLeftWith confirming c e r vals own all → IsLeftWith confirming c e r vals own some
  left_kept false e r vals own kept left = gathered_kept e r vals own kept left
  left_kept true e r vals own kept left = confirmed_kept e r vals own kept left

  begin_kept : (e r : ℕ) (b : Bool) (own : List Vote) → ((p : Place) → Contains (looked_at c i x (Est e r b)) p → AreKept c i x p all some)
      → MayBegin c i x e r b own all → MayBegin c i x e r b own some
  begin_kept e zero true own kept may = may
  begin_kept e zero false own kept may =
      kept_by (place topics.FromDesk i e 0) (kept (place topics.FromDesk i e 0) (Contains-first (place topics.FromDesk i e 0) [])) i (is_no_more e)
      (λ vote passes. no_more_at c i x i e vote passes) may
  begin_kept e (suc r) b own kept may =
      let there = kept (place topics.Shared x e r) (Contains-first (place topics.Shared x e r) []) in
      record {
        shares = omega (arith, may.shares, shares_kept e r there);
        picked = elim may.picked [
          | inl alone ↦ inl alone
          | inr both ↦ inr (both.0, coin_kept e r b there both.1)
        ];
      }

  settled_kept : (e : ℕ) (b : Bool) (own : List Vote) → ((p : Place) → Contains (looked_at c i x (Decided e b)) p → AreKept c i x p all some)
      → HasSettled c x e b own all → HasSettled c x e b own some
  settled_kept e b own kept settled =
      let there = kept (place topics.Shared x e settled.round) (share_place x e c.rounds settled.round settled.known) in
      record {
        round = settled.round;
        known = settled.known;
        picked = settled.picked;
        shares = omega (arith, settled.shares, shares_kept e settled.round there);
        coin = coin_kept e settled.round b there settled.coin;
      }

  agree_kept : (own : List Vote) (vote : Vote) → ((p : Place) → Contains (looked_at c i x vote) p → AreKept c i x p all some)
      → MayAgree c i x own all vote → MayAgree c i x own some vote
  agree_kept own (Est e r b) kept may = (may.0, begin_kept e r b own kept may.1, may.2)
  agree_kept own (Bval e r b) kept may =
      let there = kept (place topics.Claimed x e r) (Contains-first (place topics.Claimed x e r) []) in (
        may.0,
        elim may.1 [
          | inl estimate ↦ inl estimate
          | inr others ↦ inr (others.0, omega (arith, others.1, support_kept e (bvals r b) there))
        ],
        may.2,
      )
  agree_kept own (Aux e r b) kept may =
      let there = kept (place topics.Claimed x e r) (Contains-first (place topics.Claimed x e r) []) in
      (may.0, may.1, omega (arith, may.2, support_kept e (bvals r b) there), may.3)
  agree_kept own (Conf e r vals) kept may =
      (may.0, may.1, gathered_kept e r vals own (kept (place topics.Claimed x e r) (Contains-first (place topics.Claimed x e r) [])) may.2, may.3)
  agree_kept own (Pick e r vals) kept may =
      (may.0, left_kept (confirms c) e r vals own (kept (place topics.Claimed x e r) (Contains-first (place topics.Claimed x e r) [])) may.1, may.2)
  agree_kept own (Coin e r share salt branch) kept may = may
  agree_kept own (Decided e b) kept may = (settled_kept e b own kept may.0, may.1)
  agree_kept own vote kept may = absurd may

  -- ---- the desk

  desk_kept : (own : List Vote) (vote : Vote) → ((p : Place) → Contains (looked_at c i x vote) p → AreKept c i x p all some)
      → MayAtDesk c own all vote → MayAtDesk c own some vote
  desk_kept own (Propose e value) kept may = may
  desk_kept own (NoMore e) kept may =
      let there = kept (place topics.FromLanes i e 0) (Contains-first (place topics.FromLanes i e 0) []) in
      let more : count_shown c.n (heard_by all) (is_decision e true) ≤ count_shown c.n (heard_by some) (is_decision e true) =
      count_nodes-mono c.n (λ a. heard_by all a (is_decision e true)) (λ a. heard_by some a (is_decision e true))
      (λ a below h. kept_by (place topics.FromLanes i e 0) there a (is_decision e true)
      (λ vote passes. let found = bit_some (decided e vote) true passes in decided_at c i x a e vote found.0 found.1) h) in
      (omega (arith, may.0, more), may.1)
  desk_kept own (Closed e list) kept may =
      let there = kept (place topics.FromLanes i e 0) (Contains-first (place topics.FromLanes i e 0) []) in (
        may.0,
        record {
          bits = may.1.bits;
          decided = λ j below.
              kept_by (place topics.FromLanes i e 0) there j (is_decision e (may.1.bits j))
              (λ vote passes. let found = bit_some (decided e vote) (may.1.bits j) passes in decided_at c i x j e vote found.0 found.1)
              (may.1.decided j below);
          lanes = may.1.lanes;
          values =
              All-weaker (λ (item : Item). Contains all (hearing item.node (Delivered e item.value)))
              (λ (item : Item). Contains some (hearing item.node (Delivered e item.value)))
              (λ item stands. there.each (hearing item.node (Delivered e item.value)) stands refl refl) list may.1.values;
        },
        may.2,
      )
  desk_kept own vote kept may = absurd may

  in_part_kept : (part : Part) (own : List Vote) (vote : Vote) → ((p : Place) → Contains (looked_at c i x vote) p → AreKept c i x p all some)
      → MayInPart part c i x own all vote → MayInPart part c i x own some vote
  in_part_kept broadcast own vote kept may = broadcast_kept own vote kept may
  in_part_kept agreement own vote kept may = agree_kept own vote kept may
  in_part_kept desk own vote kept may = absurd may

  pub may_by_part : (own : List Vote) (vote : Vote) → ((p : Place) → Contains (looked_at c i x vote) p → AreKept c i x p all some)
      → MayCast c i x own all vote → MayCast c i x own some vote
  may_by_part own vote kept (inl may) = inl (may.0, in_part_kept (part_of vote) own vote kept may.1)
  may_by_part own vote kept (inr may) = inr (may.0, desk_kept own vote kept may.1)
