-- What correct actors cast and hear in a legal history is of epochs that the run has. The letters: actor x of node i casts, a is a node,
-- e an epoch, r a round.
use Rattle.std.proofs.Common.{◌≡◌, ℕ, zero, suc, ◌<◌, nat_lt, Bool, true, false, ◌&&◌, ◌==◌, inl, inr, List, Contains, None, Some, if◌then◌else◌, refl, ap, subst, arith}
use Rattle.std.proofs.lemmas.Bool.{and_parts, eqb-true, ltb-true}
use Rattle.std.proofs.lemmas.Option.{same_Some}
use Rattle.hb_base.specs.NodeSet.{is_in}
use Rattle.hb_base.specs.Numbers.{Numbers, AreSound}
use Rattle.hb_wire.specs.declared.vote.Vals.{Vals}
use Rattle.hb_wire.specs.declared.vote.Vals.TheVariants.{Zero, One, Both}
use Rattle.hb_wire.specs.declared.vote.Vote.{Vote}
use Rattle.hb_wire.specs.declared.vote.Vote.TheVariants.{Val, Echo, Ready, Delivered, Est, Bval, Aux, Conf, Pick, Coin, Decided, Propose, NoMore, Closed}
use Rattle.hb_wire.specs.declared.post.Post.{Post}
use Rattle.hb_wire.specs.Votes.{epoch_of}
use Rattle.hb_rules.specs.Agreement.{IsLeftWith, IsGathered, IsConfirmed, MayBegin, MayAgree, confirms}
use Rattle.hb_rules.specs.Broadcast.{MayBroadcast}
use Rattle.hb_rules.specs.Claims.{echoed, readied, decided, same_bit, is_bit, is_echo, is_ready, is_decision, is_no_more}
use Rattle.hb_rules.specs.Code.{echo_count, ready_count}
use Rattle.hb_rules.specs.Desk.{MayAtDesk}
use Rattle.hb_rules.specs.Hearing.{Hearing, hearing, heard_by, heard_in, own_in, is_below, round_of}
use Rattle.hb_rules.specs.History.{IsLegal}
use Rattle.hb_rules.specs.Marks.{Mark, delivery, est, any_est, bval, any_aux, any_conf, pick, any_pick, any_coin, decision, any_decision, has, bears, single, same_vals}
use Rattle.hb_rules.specs.Parts.{Part, broadcast, agreement, desk, part_of}
use Rattle.hb_rules.specs.Rules.{MayInPart, MayCast}
use Rattle.hb_rules.proofs.Addressed.{addressed_induction}
use Rattle.hb_rules.proofs.Among.{any_stands}
use Rattle.hb_rules.proofs.BroadcastParts.{some_only}
use Rattle.hb_rules.proofs.Cast.{heard_from, newly_cast}
use Rattle.hb_rules.proofs.Counts.{member_from_count}
use Rattle.post_judge.specs.declared.place.Place.{Place}
use Rattle.post_judge.specs.declared.place.Topic.TheVariants as topics
use Rattle.post_judge.specs.Places.{place, heard_place}
use Rattle.post_judge.proofs.Kept.{IsAt, has_some, these_some, bit_some, echoed_at, readied_at, decided_at, no_more_at}

-- ---- the epochs of votes

-- a vote has the epoch of the place where it is heard
pub epoch_at : (i x : ℕ) (vote : Vote) (p : Place) → heard_place i x vote ≡ Some p → epoch_of vote ≡ p.epoch
epoch_at i x (Val e m root shard branch) p h = ap (λ (q : Place). q.epoch) (same_Some _ p h)
epoch_at i x (Echo e root shard branch) p h = ap (λ (q : Place). q.epoch) (same_Some _ p h)
epoch_at i x (Ready e root) p h = ap (λ (q : Place). q.epoch) (same_Some _ p h)
epoch_at i x (Bval e r bit) p h = ap (λ (q : Place). q.epoch) (same_Some _ p h)
epoch_at i x (Aux e r bit) p h = ap (λ (q : Place). q.epoch) (same_Some _ p h)
epoch_at i x (Conf e r vals) p h = ap (λ (q : Place). q.epoch) (same_Some _ p h)
epoch_at i x (Coin e r share salt branch) p h = ap (λ (q : Place). q.epoch) (same_Some _ p h)
epoch_at i x (Propose e value) p h = ap (λ (q : Place). q.epoch) (same_Some _ p h)
epoch_at i x (NoMore e) p h = ap (λ (q : Place). q.epoch) (same_Some _ p h)
epoch_at i x (Delivered e value) p h = ap (λ (q : Place). q.epoch) (same_Some _ p h)
epoch_at i x (Decided e bit) p h = ap (λ (q : Place). q.epoch) (same_Some _ p h)
epoch_at i x vote p h = absurd (cc (h))

-- a vote with a mark of an epoch is of it
pub mark_epoch : (e : ℕ) (mark : Mark) (vote : Vote) → bears e mark vote ≡ true → epoch_of vote ≡ e
mark_epoch e delivery (Delivered d value) h = eqb-true d e (some_only (d == e) value h)
mark_epoch e delivery vote h = absurd (cc (h))
mark_epoch e (est r b) (Est d s bit) h = eqb-true d e (and_parts (d == e) ((s == r) && same_bit bit b) h).0
mark_epoch e (est r b) vote h = absurd (cc (h))
mark_epoch e (any_est r) (Est d s bit) h = eqb-true d e (and_parts (d == e) (s == r) h).0
mark_epoch e (any_est r) vote h = absurd (cc (h))
mark_epoch e (bval r b) (Bval d s bit) h = eqb-true d e (and_parts (d == e) ((s == r) && same_bit bit b) h).0
mark_epoch e (bval r b) vote h = absurd (cc (h))
mark_epoch e (any_aux r) (Aux d s bit) h = eqb-true d e (and_parts (d == e) (s == r) h).0
mark_epoch e (any_aux r) vote h = absurd (cc (h))
mark_epoch e (any_conf r) (Conf d s vals) h = eqb-true d e (and_parts (d == e) (s == r) h).0
mark_epoch e (any_conf r) vote h = absurd (cc (h))
mark_epoch e (pick r set) (Pick d s vals) h = eqb-true d e (and_parts (d == e) ((s == r) && same_vals vals set) h).0
mark_epoch e (pick r set) vote h = absurd (cc (h))
mark_epoch e (any_pick r) (Pick d s vals) h = eqb-true d e (and_parts (d == e) (s == r) h).0
mark_epoch e (any_pick r) vote h = absurd (cc (h))
mark_epoch e (any_coin r) (Coin d s share salt branch) h = eqb-true d e (and_parts (d == e) (s == r) h).0
mark_epoch e (any_coin r) vote h = absurd (cc (h))
mark_epoch e (decision b) (Decided d bit) h = decision_epoch (d == e) refl h
  where
    decision_epoch : (t : Bool) → (d == e) ≡ t → is_bit b (if t then Some bit else None) ≡ true → d ≡ e
    decision_epoch true is h = eqb-true d e is
    decision_epoch false is h = absurd (cc (h))
mark_epoch e (decision b) vote h = absurd (cc (h))
mark_epoch e any_decision (Decided d bit) h = eqb-true d e (some_only (d == e) bit h)
mark_epoch e any_decision vote h = absurd (cc (h))

-- ---- lists of which all is of the run's epochs

pub record AreWithin (c : Numbers) (votes : List Vote) : Type 0 where
  pub each : (vote : Vote) → Contains votes vote → epoch_of vote < c.epochs

pub record AreHeardWithin (c : Numbers) (heard : List Hearing) : Type 0 where
  pub each : (h : Hearing) → Contains heard h → epoch_of h.vote < c.epochs

-- what an actor hears of a history
pub heard_within : (c : Numbers) (i x : ℕ) (history : List Post) → AreHeardWithin c (heard_in c i x history)
heard_within c i x history = record {
  each = λ h stands.
      let source = heard_from c i x history h stands in
      let said = source.2 in
      let known : epoch_of said.vote < c.epochs =
      ltb-true (epoch_of said.vote) c.epochs (and_parts (nat_lt (epoch_of said.vote) c.epochs) (is_below c.rounds (round_of said.vote)) said.within).0 in
      subst (λ (g : Hearing). epoch_of g.vote < c.epochs) said.hearing_is known;
}

module _ (c : Numbers) (own : List Vote) (heard : List Hearing) (cast : AreWithin c own) (known : AreHeardWithin c heard) where
  -- an epoch of which something is heard
  epoch_heard : (i x a : ℕ) (p : Place) (test : Vote → Bool) → ((vote : Vote) → test vote ≡ true → IsAt c i x a p vote)
      → heard_by heard a test ≡ true → p.epoch < c.epochs
  epoch_heard i x a p test at h =
      let found = any_stands (λ (g : Hearing). (g.from == a) && test g.vote) heard h in
      let passes = (and_parts (found.0.from == a) (test found.0.vote) found.2).1 in
      subst (λ (e : ℕ). e < c.epochs) (epoch_at i x found.0.vote p (at found.0.vote passes).place) (known.each found.0 found.1)

  -- an epoch of which something was cast
  epoch_cast : (e : ℕ) (mark : Mark) → has e mark own ≡ true → e < c.epochs
  epoch_cast e mark h =
      let found = any_stands (bears e mark) own h in
      subst (λ (d : ℕ). d < c.epochs) (mark_epoch e mark found.0 found.2) (cast.each found.0 found.1)

  some_echo : (e : ℕ) (root : List ℕ) → 0 < echo_count c.n e root (heard_by heard) → e < c.epochs
  some_echo e root some =
      let one = member_from_count c.n (λ a. heard_by heard a (is_echo c.n e root a)) some in
      epoch_heard 0 0 one.0 (place topics.Spread 0 e 0) (is_echo c.n e root one.0)
      (λ vote passes. let part = has_some (echoed c.n e one.0 vote) root passes in echoed_at c 0 0 one.0 e vote part.0 part.1) one.2

  some_ready : (e : ℕ) (root : List ℕ) → 0 < ready_count c.n e root (heard_by heard) → e < c.epochs
  some_ready e root some =
      let one = member_from_count c.n (λ a. heard_by heard a (is_ready e root)) some in
      epoch_heard 0 0 one.0 (place topics.Spread 0 e 0) (is_ready e root)
      (λ vote passes. let found = these_some (readied e vote) root passes in readied_at c 0 0 one.0 e vote found.0 found.1) one.2

  decision_heard : (e j : ℕ) (b : Bool) → heard_by heard j (is_decision e b) ≡ true → e < c.epochs
  decision_heard e j b h =
      epoch_heard 0 0 j (place topics.FromLanes 0 e 0) (is_decision e b)
      (λ vote passes. let found = bit_some (decided e vote) b passes in decided_at c 0 0 j e vote found.0 found.1) h

  broadcast_within : (i j : ℕ) (vote : Vote) → AreSound c → MayBroadcast c i j own heard vote → epoch_of vote < c.epochs
  broadcast_within i j (Val e m root shard branch) sound may = known.each (hearing i (Propose e may.1.value)) may.1.proposed
  broadcast_within i j (Echo e root shard branch) sound may = known.each (hearing j (Val e i root shard branch)) may.0
  broadcast_within i j (Ready e root) sound may = elim may.0 [
    | inl quorum ↦ some_echo e root (omega (arith, quorum.echoes, sound.enough))
    | inr readies ↦ some_ready e root (omega (arith, readies))
  ]
  broadcast_within i j (Delivered e value) sound may = some_ready e may.0.root (omega (arith, may.0.readies))
  broadcast_within i j vote sound may = absurd may

  gathered_within : (e r : ℕ) (vals : Vals) → IsGathered c e r vals own heard → e < c.epochs
  gathered_within e r Zero gathered = epoch_cast e (any_aux r) gathered.entered
  gathered_within e r One gathered = epoch_cast e (any_aux r) gathered.entered
  gathered_within e r Both gathered = epoch_cast e (any_aux r) gathered.entered

  confirmed_within : (e r : ℕ) (vals : Vals) → IsConfirmed c e r vals own heard → e < c.epochs
  confirmed_within e r Zero confirmed = epoch_cast e (any_conf r) confirmed.entered
  confirmed_within e r One confirmed = epoch_cast e (any_conf r) confirmed.entered
  confirmed_within e r Both confirmed = epoch_cast e (any_conf r) confirmed.entered

  left_within : (confirming : Bool) (e r : ℕ) (vals : Vals) → IsLeftWith confirming c e r vals own heard → e < c.epochs
  left_within false e r vals left = gathered_within e r vals left
  left_within true e r vals left = confirmed_within e r vals left

  begin_within : (i j e r : ℕ) (b : Bool) → MayBegin c i j e r b own heard → e < c.epochs
  begin_within i j e zero true may = epoch_cast e delivery may
  begin_within i j e zero false may =
      epoch_heard i 0 i (place topics.FromDesk i e 0) (is_no_more e) (λ vote passes. no_more_at c i 0 i e vote passes) may
  begin_within i j e (suc r) b may = elim may.picked [
    | inl alone ↦ epoch_cast e (pick r (single b)) alone
    | inr both ↦ epoch_cast e (pick r Both) both.0
  ]

  agree_within : (i j : ℕ) (vote : Vote) → MayAgree c i j own heard vote → epoch_of vote < c.epochs
  agree_within i j (Est e r b) may = begin_within i j e r b may.1
  agree_within i j (Bval e r b) may = elim may.1 [
    | inl estimate ↦ epoch_cast e (est r b) estimate
    | inr others ↦ epoch_cast e (any_est r) others.0
  ]
  agree_within i j (Aux e r b) may = epoch_cast e (any_est r) may.1
  agree_within i j (Conf e r vals) may = gathered_within e r vals may.2
  agree_within i j (Pick e r vals) may = left_within (confirms c) e r vals may.1
  agree_within i j (Coin e r share salt branch) may = epoch_cast e (any_pick r) may.4
  agree_within i j (Decided e b) may = epoch_cast e (pick may.0.round (single b)) may.0.picked
  agree_within i j vote may = absurd may

  desk_within : (vote : Vote) → AreSound c → MayAtDesk c own heard vote → epoch_of vote < c.epochs
  desk_within (Propose e value) sound may = may.0
  desk_within (NoMore e) sound may =
      let one = member_from_count c.n (λ a. heard_by heard a (is_decision e true)) (omega (arith, may.0, sound.enough)) in
      decision_heard e one.0 true one.2
  desk_within (Closed e list) sound may = decision_heard e 0 (may.1.bits 0) (may.1.decided 0 (omega (arith, sound.enough)))
  desk_within vote sound may = absurd may

  in_part_within : (part : Part) (i x : ℕ) (vote : Vote) → AreSound c → MayInPart part c i x own heard vote → epoch_of vote < c.epochs
  in_part_within broadcast i x vote sound may = broadcast_within i x vote sound may
  in_part_within agreement i x vote sound may = agree_within i x vote may
  in_part_within desk i x vote sound may = absurd may

  may_within : (i x : ℕ) (vote : Vote) → AreSound c → MayCast c i x own heard vote → epoch_of vote < c.epochs
  may_within i x vote sound (inl may) = in_part_within (part_of vote) i x vote sound may.1
  may_within i x vote sound (inr may) = desk_within vote sound may.1

-- a correct actor casts votes of the run's epochs alone
pub own_in_run : (c : Numbers) (i x : ℕ) → AreSound c → is_in c.liars i ≡ false → (history : List Post) → IsLegal c history
    → AreWithin c (own_in c i x history)
own_in_run c i x sound correct history legal =
    addressed_induction c (λ (posts : List Post). AreWithin c (own_in c i x posts))
    (record { each = λ vote none. absurd (omega (arith, none.1)) })
    (λ before post addressed cast follows. record {
      each = λ vote stands. elim (newly_cast c i x before post vote correct follows stands) [
        | inl earlier ↦ cast.each vote earlier
        | inr new ↦
            may_within c (own_in c i x before) (heard_in c i x before) cast (heard_within c i x before) i x vote sound new.may
      ];
    }) history legal

-- and so is what it may cast next
pub next_in_run : (c : Numbers) (i x : ℕ) (history : List Post) (vote : Vote) → AreSound c → is_in c.liars i ≡ false → IsLegal c history
    → MayCast c i x (own_in c i x history) (heard_in c i x history) vote → epoch_of vote < c.epochs
next_in_run c i x history vote sound correct legal may =
    may_within c (own_in c i x history) (heard_in c i x history) (own_in_run c i x sound correct history legal) (heard_within c i x history) i x vote sound may
