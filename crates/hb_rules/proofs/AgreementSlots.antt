-- What a lane owes in the agreement may be cast, one vote after another, whatever more is heard later, and has a spelling.
use Rattle.std.proofs.Common.{◌≡◌, ℕ, suc, ◌+◌, ◌-◌, ◌*◌, ◌<◌, ◌≤◌, ◌⊎◌, Bool, true, false, not, ◌&&◌, nat_le, inl, inr, List, None, Some, if◌then◌else◌, refl, subst, arith}
use Rattle.std.specs.List.{AllByRecursion}
use Rattle.std.proofs.lemmas.Bool.{eqb-true, leb-true, and_parts, or_cases}
use Rattle.hb_base.specs.Numbers.{Numbers, AreSound}
use Rattle.coin_deal.proofs.Form.{share_form}
use Rattle.hb_wire.specs.Votes.{FieldFits, first_version, epoch_of, row}
use Rattle.hb_wire.specs.declared.vote.Vals.{Vals}
use Rattle.hb_wire.specs.declared.vote.Vals.TheVariants.{Zero, One, Both}
use Rattle.hb_wire.specs.declared.vote.Vote.{Vote}
use Rattle.hb_wire.specs.declared.vote.Vote.TheVariants.{Est, Bval, Aux, Conf, Pick, Decided}
use Rattle.hb_rules.specs.declared.agreement_slot.AgreementSlot.{AgreementSlot}
use Rattle.hb_rules.specs.declared.agreement_slot.AgreementSlot.TheVariants.{Begin, Support, Accept, ConfirmOne, ConfirmBoth, PickOne, PickBoth, ShowShare, GoOn, Decide}
use Rattle.hb_rules.specs.Hearing.{Hearing}
use Rattle.hb_rules.specs.History.{HasSpelling}
use Rattle.hb_rules.specs.Marks.{single, Claim, Mark, est, any_est, any_aux, any_conf, pick, has, bvals, auxes, any_auxes, confs, any_confs, confs_with, support}
use Rattle.hb_rules.specs.Coins.{HasCoin}
use Rattle.hb_rules.specs.Agreement.{confirms, IsGathered, IsConfirmed, IsLeftWith, GoesOn, MayBegin, MayAgree}
use Rattle.hb_rules.specs.AgreementRows.{View, view_of, is_supported, has_quorum, is_made, is_gathered_one, is_gathered_both, is_confirmed_one, is_confirmed_both, is_left_one, is_left_both, next_bit, limit_of, agreement_slot, agreement_rows, dealt}
use Rattle.hb_rules.specs.Slots.{IsOwed, owed, IsGuarded}
use Rattle.hb_rules.specs.Turns.{InTurn, IsAllowedBy}
use Rattle.hb_rules.specs.Owing.{agreement_slots}
use Rattle.hb_rules.specs.Terms.{AreHeardSpelled, AreSpelled, AreAmong}
use Rattle.hb_rules.proofs.FirstShares.{coin_in-shown}
use Rattle.hb_rules.proofs.MoreHeard.{MayAgree-among}
use Rattle.hb_rules.proofs.Passing.{HasMade, owed_is_owed, IsOwed-InTurn, IsOwed-all}
use Rattle.hb_rules.proofs.Lists.{AllByRecursion-weaker}
use Rattle.hb_rules.proofs.Rows.{of_epoch-hold}
use Rattle.hb_rules.proofs.AgreementParts.{Gives, choice_gives, IsKnown, agreement_hold, agreement-guarded}

-- ---- the bits that are left

-- the bit is supported, and n - f nodes make a claim
alone : (c : Numbers) (i j e r : ℕ) (b : Bool) (own : List Vote) (heard : List Hearing) (mark : Mark) (claim : Claim)
    → (has e mark own && (is_supported c (view_of c i j e own heard) r b && has_quorum c (view_of c i j e own heard) claim)) ≡ true
    → (has e mark own ≡ true) × (2 * c.f + 1 ≤ support c.n e (bvals r b) heard) × (c.n - c.f ≤ support c.n e claim heard)
alone c i j e r b own heard mark claim h =
    let v : View = view_of c i j e own heard in
    let one = and_parts (has e mark own) (is_supported c v r b && has_quorum c v claim) h in
    let two = and_parts (is_supported c v r b) (has_quorum c v claim) one.1 in
    (one.0, leb-true (2 * c.f + 1) (support c.n e (bvals r b) heard) two.0, leb-true (c.n - c.f) (support c.n e claim heard) two.1)

gathered_one : (c : Numbers) (i j e r : ℕ) (b : Bool) (own : List Vote) (heard : List Hearing)
    → is_gathered_one c (view_of c i j e own heard) r b ≡ true → IsGathered c e r (single b) own heard
gathered_one c i j e r false own heard h =
    let is = alone c i j e r false own heard (any_aux r) (auxes r false) h in
    record { entered = is.0; supported = is.1; accepted = is.2 }
gathered_one c i j e r true own heard h =
    let is = alone c i j e r true own heard (any_aux r) (auxes r true) h in
    record { entered = is.0; supported = is.1; accepted = is.2 }

confirmed_one : (c : Numbers) (i j e r : ℕ) (b : Bool) (own : List Vote) (heard : List Hearing)
    → is_confirmed_one c (view_of c i j e own heard) r b ≡ true → IsConfirmed c e r (single b) own heard
confirmed_one c i j e r false own heard h =
    let is = alone c i j e r false own heard (any_conf r) (confs r false) h in
    record { entered = is.0; supported = is.1; confirmed = is.2 }
confirmed_one c i j e r true own heard h =
    let is = alone c i j e r true own heard (any_conf r) (confs r true) h in
    record { entered = is.0; supported = is.1; confirmed = is.2 }

-- what holds of both bits holds of each
each_bit : (P : Bool → Type 0) → P false → P true → (b : Bool) → P b
each_bit P low high false = low
each_bit P low high true = high

gathered_both : (c : Numbers) (i j e r : ℕ) (own : List Vote) (heard : List Hearing)
    → is_gathered_both c (view_of c i j e own heard) r ≡ true → IsGathered c e r Both own heard
gathered_both c i j e r own heard h =
    let v : View = view_of c i j e own heard in
    let n : ℕ = c.n in
    let neither : Bool = not (has_quorum c v (auxes r false)) && not (has_quorum c v (auxes r true)) in
    let quorum : Bool = has_quorum c v (any_auxes r) && neither in
    let each : Bool = is_made v (auxes r false) && is_made v (auxes r true) in
    let both : Bool = is_supported c v r false && is_supported c v r true in
    let one = and_parts (v.cast (any_aux r)) (both && (each && quorum)) h in
    let two = and_parts both (each && quorum) one.1 in
    let three = and_parts each quorum two.1 in
    let four = and_parts (has_quorum c v (any_auxes r)) neither three.1 in
    let supported = and_parts (is_supported c v r false) (is_supported c v r true) two.0 in
    let made = and_parts (is_made v (auxes r false)) (is_made v (auxes r true)) three.0 in
    record {
      entered = one.0;
      supported =
          each_bit (λ b. 2 * c.f + 1 ≤ support n e (bvals r b) heard)
          (leb-true (2 * c.f + 1) (support n e (bvals r false) heard) supported.0)
          (leb-true (2 * c.f + 1) (support n e (bvals r true) heard) supported.1);
      each =
          each_bit (λ b. 1 ≤ support n e (auxes r b) heard)
          (leb-true 1 (support n e (auxes r false) heard) made.0) (leb-true 1 (support n e (auxes r true) heard) made.1);
      accepted = leb-true (c.n - c.f) (support n e (any_auxes r) heard) four.0;
    }

confirmed_both : (c : Numbers) (i j e r : ℕ) (own : List Vote) (heard : List Hearing)
    → is_confirmed_both c (view_of c i j e own heard) r ≡ true → IsConfirmed c e r Both own heard
confirmed_both c i j e r own heard h =
    let v : View = view_of c i j e own heard in
    let n : ℕ = c.n in
    let neither : Bool = not (has_quorum c v (confs r false)) && not (has_quorum c v (confs r true)) in
    let each : Bool = is_made v (confs_with r false) && is_made v (confs_with r true) in
    let both : Bool = is_supported c v r false && is_supported c v r true in
    let one = and_parts (v.cast (any_conf r)) (both && (has_quorum c v (any_confs r) && (each && neither))) h in
    let two = and_parts both (has_quorum c v (any_confs r) && (each && neither)) one.1 in
    let three = and_parts (has_quorum c v (any_confs r)) (each && neither) two.1 in
    let four = and_parts each neither three.1 in
    let supported = and_parts (is_supported c v r false) (is_supported c v r true) two.0 in
    let made = and_parts (is_made v (confs_with r false)) (is_made v (confs_with r true)) four.0 in
    record {
      entered = one.0;
      supported =
          each_bit (λ b. 2 * c.f + 1 ≤ support n e (bvals r b) heard)
          (leb-true (2 * c.f + 1) (support n e (bvals r false) heard) supported.0)
          (leb-true (2 * c.f + 1) (support n e (bvals r true) heard) supported.1);
      confirmed = leb-true (c.n - c.f) (support n e (any_confs r) heard) three.0;
      each =
          each_bit (λ b. 1 ≤ support n e (confs_with r b) heard)
          (leb-true 1 (support n e (confs_with r false) heard) made.0) (leb-true 1 (support n e (confs_with r true) heard) made.1);
    }

left_one : (confirm : Bool) (c : Numbers) (i j e r : ℕ) (b : Bool) (own : List Vote) (heard : List Hearing)
    → is_left_one confirm c (view_of c i j e own heard) r b ≡ true → IsLeftWith confirm c e r (single b) own heard
left_one true c i j e r b own heard h = confirmed_one c i j e r b own heard h
left_one false c i j e r b own heard h = gathered_one c i j e r b own heard h

left_both : (confirm : Bool) (c : Numbers) (i j e r : ℕ) (own : List Vote) (heard : List Hearing)
    → is_left_both confirm c (view_of c i j e own heard) r ≡ true → IsLeftWith confirm c e r Both own heard
left_both true c i j e r own heard h = confirmed_both c i j e r own heard h
left_both false c i j e r own heard h = gathered_both c i j e r own heard h

-- the bit with which a lane goes on was picked alone, or both bits were and it is the coin
next_picked : (v : View) (r : ℕ) (coin b : Bool) → next_bit v r coin ≡ Some b
    → (v.cast (pick r (single b)) ≡ true) ⊎ ((v.cast (pick r Both) ≡ true) × (coin ≡ b))
next_picked v r coin b h = by (v.cast (pick r Zero)) (v.cast (pick r One)) (v.cast (pick r Both)) refl refl refl h
  where
    by : (low high both : Bool) → v.cast (pick r Zero) ≡ low → v.cast (pick r One) ≡ high → v.cast (pick r Both) ≡ both
        → (if low then Some false else (if high then Some true else (if both then Some coin else None))) ≡ Some b
        → (v.cast (pick r (single b)) ≡ true) ⊎ ((v.cast (pick r Both) ≡ true) × (coin ≡ b))
    by true high both is_low is_high is_both h =
        let same : false ≡ b = cc in inl (subst (λ (b : Bool). v.cast (pick r (single b)) ≡ true) same is_low)
    by false true both is_low is_high is_both h =
        let same : true ≡ b = cc in inl (subst (λ (b : Bool). v.cast (pick r (single b)) ≡ true) same is_high)
    by false false true is_low is_high is_both h = let same : coin ≡ b = cc in inr (is_both, same)
    by false false false is_low is_high is_both h = absurd (cc (h))

-- ---- owed votes may be cast

pub gives_allowed : (c : Numbers) → AreSound c → (i j e : ℕ) (name : AgreementSlot) → IsKnown c name → (own : List Vote) (heard : List Hearing)
    → AreHeardSpelled c heard
    → has e (limit_of name) own ≡ false → Gives c i j e name (view_of c i j e own heard) (λ vote. MayAgree c i j own heard vote)
gives_allowed c sound i j e (Begin true) known own heard spelled empty = λ delivered. (omega (arith, sound.rounds.0), delivered, empty)
gives_allowed c sound i j e (Begin false) known own heard spelled empty = λ no_more. (omega (arith, sound.rounds.0), no_more, empty)
gives_allowed c sound i j e (Support r b) known own heard spelled empty = λ h.
    let begun : Bool = has e (any_est r) own in
    let enough : Bool = nat_le (c.f + 1) (support c.n e (bvals r b) heard) in (
      known,
      elim (or_cases (has e (est r b) own) (begun && enough) h) [
        | inl estimate ↦ inl estimate
        | inr both ↦ let parts = and_parts begun enough both in inr (parts.0, leb-true (c.f + 1) (support c.n e (bvals r b) heard) parts.1)
      ],
      empty,
    )
gives_allowed c sound i j e (Accept r) known own heard spelled empty = λ b begun supported.
    (known, begun, leb-true (2 * c.f + 1) (support c.n e (bvals r b) heard) supported, empty)
gives_allowed c sound i j e (ConfirmOne r b) known own heard spelled empty = λ h. (known.0, known.1, gathered_one c i j e r b own heard h, empty)
gives_allowed c sound i j e (ConfirmBoth r) known own heard spelled empty = λ h. (known.0, known.1, gathered_both c i j e r own heard h, empty)
gives_allowed c sound i j e (PickOne r b) known own heard spelled empty = λ h. (known, left_one (confirms c) c i j e r b own heard h, empty)
gives_allowed c sound i j e (PickBoth r) known own heard spelled empty = λ h. (known, left_both (confirms c) c i j e r own heard h, empty)
gives_allowed c sound i j e (ShowShare r) known own heard spelled empty = λ picked. (known, refl, refl, refl, picked, empty)
gives_allowed c sound i j e (GoOn r) known own heard spelled empty = λ coin b is next.
    let shown = coin_in-shown c sound e j r heard spelled coin is in
    let goes : GoesOn c j e r b own heard = record {
      shares = shown.shares;
      picked = elim (next_picked (view_of c i j e own heard) r coin b next) [
        | inl alone ↦ inl alone
        | inr both ↦ inr (both.0, subst (λ (bit : Bool). HasCoin c e j r heard bit) both.1 shown.coin)
      ];
    } in
    let later : suc r ≡ r + 1 = omega arith in
    let begins : MayBegin c i j e (suc r) b own heard = goes in
    (known, subst (λ (s : ℕ). MayBegin c i j e s b own heard) later begins, empty)
gives_allowed c sound i j e (Decide r) known own heard spelled empty = λ coin is picked.
    let shown = coin_in-shown c sound e j r heard spelled coin is in
    (record { round = r; known = known; picked = picked; shares = shown.shares; coin = shown.coin }, empty)

pub agreement_slot-allowed : (c : Numbers) → AreSound c → (i j e : ℕ) (name : AgreementSlot) → IsKnown c name → (some all : List Hearing)
    → AreHeardSpelled c some → AreAmong some all
    → IsAllowedBy (λ own vote. MayAgree c i j own all vote) some (agreement_slot c i j e name)
unfolding agreement_slot
agreement_slot-allowed c sound i j e name known some all spelled among = record {
  allowed = λ own vote empty h.
      MayAgree-among c i j own some all vote among
      (choice_gives c i j e name (view_of c i j e own some) (λ vote. MayAgree c i j own some vote)
      (gives_allowed c sound i j e name known own some spelled empty) vote h);
}

-- by rows, for all epochs
pub agreement-allowed : (c : Numbers) → AreSound c → (i j : ℕ) (some all : List Hearing) → AreHeardSpelled c some → AreAmong some all
    → AllByRecursion (λ row. (e : ℕ) → AllByRecursion (IsAllowedBy (λ own vote. MayAgree c i j own all vote) some) (row e)) (agreement_rows c i j)
agreement-allowed c sound i j some all spelled among =
    agreement_hold (λ e slot. IsAllowedBy (λ own vote. MayAgree c i j own all vote) some slot) c i j
    (λ e name known. agreement_slot-allowed c sound i j e name known some all spelled among)

-- what a lane owes in the agreement it may cast in turn
pub agreement_in_turn : (c : Numbers) → AreSound c → (i j e : ℕ) (own : List Vote) (some all : List Hearing) (votes : List Vote)
    → AreHeardSpelled c some → AreAmong some all → IsOwed (agreement_slots c i j e) own some votes
    → InTurn (λ own vote. MayAgree c i j own all vote) own votes
agreement_in_turn c sound i j e own some all votes spelled among owed =
    IsOwed-InTurn (λ own vote. MayAgree c i j own all vote) some (agreement_slots c i j e)
    (of_epoch-hold (λ e slot. IsAllowedBy (λ own vote. MayAgree c i j own all vote) some slot) e (agreement_rows c i j)
    (agreement-allowed c sound i j some all spelled among)) own votes owed

-- one list is owed
pub agreement-owed : (c : Numbers) (i j e : ℕ) (own : List Vote) (heard : List Hearing)
    → IsOwed (agreement_slots c i j e) own heard (owed (agreement_slots c i j e) own heard)
agreement-owed c i j e own heard =
    owed_is_owed (agreement_slots c i j e) (of_epoch-hold (λ e slot. IsGuarded slot) e (agreement_rows c i j) (agreement-guarded c i j)) own heard

-- ---- owed votes have spellings

-- a vote of both versions and of an epoch of the run, whose fields fit
pub in_run : (c : Numbers) → AreSound c → (vote : Vote) → first_version vote ≡ 1 → epoch_of vote < c.epochs
    → AllByRecursion (FieldFits c.n) (row vote).fields
    → HasSpelling c vote
in_run c sound vote version epoch fields = record {
  begun = omega (arith, version, sound.version.0);
  built = sound.version.1;
  epoch = omega (arith, epoch, sound.epochs.1);
  fields = fields;
}

-- a Conf, where there is a confirm phase
conf_in_run : (c : Numbers) → AreSound c → (e r : ℕ) (vals : Vals) → e < c.epochs → r < c.rounds → confirms c ≡ true → HasSpelling c (Conf e r vals)
conf_in_run c sound e r vals epoch round confirming = record {
  begun = omega (arith, eqb-true c.version 2 confirming);
  built = sound.version.1;
  epoch = omega (arith, epoch, sound.epochs.1);
  fields = (omega (arith, round, sound.rounds.1), (tt, tt));
}

-- what is made of an epoch and a round of the run has a spelling
pub gives_spelled : (c : Numbers) → AreSound c → (i j e : ℕ) → i < c.n → e < c.epochs → (name : AgreementSlot) → IsKnown c name → (v : View)
    → Gives c i j e name v (HasSpelling c)
gives_spelled c sound i j e node epoch (Begin true) known v =
    λ h. in_run c sound (Est e 0 true) refl epoch (omega arith, (tt, tt))
gives_spelled c sound i j e node epoch (Begin false) known v =
    λ h. in_run c sound (Est e 0 false) refl epoch (omega arith, (tt, tt))
gives_spelled c sound i j e node epoch (Support r b) known v =
    λ h. in_run c sound (Bval e r b) refl epoch (omega (arith, known, sound.rounds.1), (tt, tt))
gives_spelled c sound i j e node epoch (Accept r) known v =
    λ b begun supported. in_run c sound (Aux e r b) refl epoch (omega (arith, known, sound.rounds.1), (tt, tt))
gives_spelled c sound i j e node epoch (ConfirmOne r b) known v = λ h. conf_in_run c sound e r (single b) epoch known.0 known.1
gives_spelled c sound i j e node epoch (ConfirmBoth r) known v = λ h. conf_in_run c sound e r Both epoch known.0 known.1
gives_spelled c sound i j e node epoch (PickOne r b) known v =
    λ h. in_run c sound (Pick e r (single b)) refl epoch (omega (arith, known, sound.rounds.1), (tt, tt))
gives_spelled c sound i j e node epoch (PickBoth r) known v =
    λ h. in_run c sound (Pick e r Both) refl epoch (omega (arith, known, sound.rounds.1), (tt, tt))
gives_spelled c sound i j e node epoch (ShowShare r) known v = λ h.
    let form = share_form c e j r i (omega (arith, sound.nodes.1)) node in
    in_run c sound (dealt c i j e r) refl epoch (omega (arith, known, sound.rounds.1), (form.byte, (form.salt, (form.path, tt))))
gives_spelled c sound i j e node epoch (GoOn r) known v =
    λ coin b is next. in_run c sound (Est e (r + 1) b) refl epoch (omega (arith, known, sound.rounds.1), (tt, tt))
gives_spelled c sound i j e node epoch (Decide r) known v = λ coin is picked. in_run c sound (Decided e coin) refl epoch (tt, tt)

pub agreement_slot-spelled : (c : Numbers) → AreSound c → (i j e : ℕ) → i < c.n → e < c.epochs → (name : AgreementSlot) → IsKnown c name
    → (heard : List Hearing)
    → HasMade (HasSpelling c) heard (agreement_slot c i j e name)
unfolding agreement_slot
agreement_slot-spelled c sound i j e node epoch name known heard = record {
  has = λ own vote h.
      choice_gives c i j e name (view_of c i j e own heard) (HasSpelling c)
      (gives_spelled c sound i j e node epoch name known (view_of c i j e own heard)) vote h;
}

-- by rows, for the epochs of the run
pub agreement-spelled : (c : Numbers) → AreSound c → (i j : ℕ) → i < c.n → (heard : List Hearing)
    → AllByRecursion (λ row. (e : ℕ) → AllByRecursion (λ slot. e < c.epochs → HasMade (HasSpelling c) heard slot) (row e)) (agreement_rows c i j)
agreement-spelled c sound i j node heard =
    agreement_hold (λ e slot. e < c.epochs → HasMade (HasSpelling c) heard slot) c i j
    (λ e name known epoch. agreement_slot-spelled c sound i j e node epoch name known heard)

-- what a lane owes in the agreement has spellings
pub agreement_spelled : (c : Numbers) → AreSound c → (i j e : ℕ) → i < c.n → e < c.epochs → (own : List Vote) (heard : List Hearing) (votes : List Vote)
    → IsOwed (agreement_slots c i j e) own heard votes → AreSpelled c votes
agreement_spelled c sound i j e node epoch own heard votes owed =
    IsOwed-all (HasSpelling c) heard (agreement_slots c i j e)
    (AllByRecursion-weaker (λ slot. e < c.epochs → HasMade (HasSpelling c) heard slot) (HasMade (HasSpelling c) heard) (agreement_slots c i j e)
    (λ slot made. made epoch)
    (of_epoch-hold (λ e slot. e < c.epochs → HasMade (HasSpelling c) heard slot) e (agreement_rows c i j) (agreement-spelled c sound i j node heard)))
    own votes owed
