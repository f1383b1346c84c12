-- The vote of a slot: what it marks, and that it fills the slot.
use Rattle.std.proofs.Common.{◌≡◌, ℕ, ◌+◌, ◌<◌, ◌≤◌, Bool, true, false, ◌||◌, ◌==◌, List, [], ◌∷◌, ◌++◌, Option, None, Some, if◌then◌else◌, refl, ap, ◌∙◌, subst, arith}
use Rattle.std.specs.Option.{option_map, option_and_then}
use Rattle.std.proofs.Math.Bool.{or-false}
use Rattle.std.proofs.lemmas.Bool.{eq-eqb}
use Rattle.std.proofs.lemmas.List.Folds.{list_any-append}
use Rattle.std.proofs.lemmas.Option.{cond_some}
use Rattle.hb_base.specs.Numbers.{Numbers}
use Rattle.hb_wire.specs.declared.vote.Vals.TheVariants.{Both}
use Rattle.hb_wire.specs.declared.vote.Vote.{Vote}
use Rattle.hb_wire.specs.declared.vote.Vote.TheVariants.{Est, Bval, Aux, Conf, Pick, Decided}
use Rattle.hb_rules.specs.declared.agreement_slot.AgreementSlot.{AgreementSlot}
use Rattle.hb_rules.specs.declared.agreement_slot.AgreementSlot.TheVariants.{Begin, Support, Accept, ConfirmOne, ConfirmBoth, PickOne, PickBoth, ShowShare, GoOn, Decide}
use Rattle.hb_rules.specs.Agreement.{confirms}
use Rattle.hb_rules.specs.AgreementRows.{View, choice_of, limit_of, is_gathered_one, is_gathered_both, is_left_one, is_left_both, next_bit, stops, accepted_bit, dealt}
use Rattle.hb_rules.specs.Hearing.{round_of}
use Rattle.hb_rules.specs.Marks.{single, Mark, delivery, any_est, pick, any_pick, decision, any_decision, bears, has}
use Rattle.hb_rules.specs.Slots.{when}
use Rattle.hb_rules.proofs.AgreementParts.{same_bit-refl}
use Rattle.hb_rules.proofs.BroadcastParts.{mapped}
use Rattle.aba_core.specs.State.{mark_round, slot_round}
use Rattle.aba_core.proofs.Alike.{is_decided}
use Rattle.aba_core.proofs.Marking.{is_in_round, bears_round}

-- ---- what a vote marks

-- A vote that marks nothing of the rounds before r but a decision.
pub record IsLate (e r : ℕ) (vote : Vote) : Type 0 where
  pub later : (mark : Mark) → is_decided mark ≡ false → mark_round mark < r → bears e mark vote ≡ false

is_of_round : (mark : Mark) → is_decided mark ≡ false → is_in_round mark ≡ true
is_of_round (decision b) kind = absurd (cc (kind))
is_of_round any_decision kind = absurd (cc (kind))
is_of_round delivery kind = absurd (cc (kind))
is_of_round mark kind = refl

-- a vote of a round marks nothing of those before it
late_vote : (e r s : ℕ) (vote : Vote) → round_of vote ≡ Some s → r ≤ s → IsLate e r vote
late_vote e r s vote round le = record {
  later = λ mark kind below. bears_round e s mark vote round (is_of_round mark kind) (λ at. omega arith);
}

late_decided : (e r : ℕ) (b : Bool) → IsLate e r (Decided e b)
late_decided e r b = record { later = by }
  where
    by : (mark : Mark) → is_decided mark ≡ false → mark_round mark < r → bears e mark (Decided e b) ≡ false
    by (decision c) kind below = absurd (cc (kind))
    by any_decision kind below = absurd (cc (kind))
    by delivery kind below = absurd (cc (kind))
    by mark kind below = refl

-- ---- the votes that slots make

-- the vote fills the slot, and marks nothing of earlier rounds but a decision
pub record Fills (e : ℕ) (name : AgreementSlot) (vote : Vote) : Type 0 where
  pub fills : bears e (limit_of name) vote ≡ true
  pub no_delivery : bears e delivery vote ≡ false
  pub late : IsLate e (slot_round name) vote

same : (e : ℕ) → (e == e) ≡ true
same e = eq-eqb e e refl

fills_est : (e s : ℕ) (b : Bool) (name : AgreementSlot) → limit_of name ≡ any_est s → slot_round name ≤ s → Fills e name (Est e s b)
fills_est e s b name limit le = record { fills = rw (limit, same e, same s) refl; no_delivery = refl; late = late_vote e (slot_round name) s (Est e s b) refl le }

fills_decided : (e r : ℕ) (b : Bool) → Fills e (Decide r) (Decided e b)
fills_decided e r b = record { fills = rw (same e) refl; no_delivery = refl; late = late_decided e r b }

pub choice_fills : (c : Numbers) (i j e : ℕ) (v : View) (name : AgreementSlot) (vote : Vote) → choice_of c i j e name v ≡ Some vote → Fills e name vote
unfolding choice_of
choice_fills c i j e v (Begin true) vote h =
    subst (Fills e (Begin true)) (cond_some (v.cast delivery) (Est e 0 true) vote h).1 (fills_est e 0 true (Begin true) refl (omega arith))
choice_fills c i j e v (Begin false) vote h =
    subst (Fills e (Begin false)) (cond_some v.no_more (Est e 0 false) vote h).1 (fills_est e 0 false (Begin false) refl (omega arith))
choice_fills c i j e v (Support r b) vote h =
    subst (Fills e (Support r b)) (cond_some _ (Bval e r b) vote h).1
    (record { fills = rw (same e, same r, same_bit-refl b) refl; no_delivery = refl; late = late_vote e r r (Bval e r b) refl (omega arith) })
choice_fills c i j e v (Accept r) vote h =
    let made = mapped (Aux e r) (accepted_bit c v r) vote (inner (v.cast (any_est r)) h) in
    subst (Fills e (Accept r)) made.is (record { fills = rw (same e, same r) refl; no_delivery = refl; late = late_vote e r r (Aux e r made.value) refl (omega arith) })
  where
    inner : (b : Bool) → (if b then option_map (Aux e r) (accepted_bit c v r) else None) ≡ Some vote → option_map (Aux e r) (accepted_bit c v r) ≡ Some vote
    inner true h = h
    inner false h = absurd (cc (h))
choice_fills c i j e v (ConfirmOne r b) vote h =
    subst (Fills e (ConfirmOne r b)) (cond_some (is_gathered_one c v r b) (Conf e r (single b)) vote h).1
    (record { fills = rw (same e, same r) refl; no_delivery = refl; late = late_vote e r r (Conf e r (single b)) refl (omega arith) })
choice_fills c i j e v (ConfirmBoth r) vote h =
    subst (Fills e (ConfirmBoth r)) (cond_some (is_gathered_both c v r) (Conf e r Both) vote h).1
    (record { fills = rw (same e, same r) refl; no_delivery = refl; late = late_vote e r r (Conf e r Both) refl (omega arith) })
choice_fills c i j e v (PickOne r b) vote h =
    subst (Fills e (PickOne r b)) (cond_some (is_left_one (confirms c) c v r b) (Pick e r (single b)) vote h).1
    (record { fills = rw (same e, same r) refl; no_delivery = refl; late = late_vote e r r (Pick e r (single b)) refl (omega arith) })
choice_fills c i j e v (PickBoth r) vote h =
    subst (Fills e (PickBoth r)) (cond_some (is_left_both (confirms c) c v r) (Pick e r Both) vote h).1
    (record { fills = rw (same e, same r) refl; no_delivery = refl; late = late_vote e r r (Pick e r Both) refl (omega arith) })
choice_fills c i j e v (ShowShare r) vote h =
    subst (Fills e (ShowShare r)) (cond_some (v.cast (any_pick r)) (dealt c i j e r) vote h).1
    (record { fills = rw (same e, same r) refl; no_delivery = refl; late = late_vote e r r (dealt c i j e r) refl (omega arith) })
choice_fills c i j e v (GoOn r) vote h = by (v.coin r) h
  where
    at : (t : Bool) (o : Option Bool) → (if t then None else option_map (Est e (r + 1)) o) ≡ Some vote → Fills e (GoOn r) vote
    at true o h = absurd (cc (h))
    at false o h =
        let made = mapped (Est e (r + 1)) o vote h in
        subst (Fills e (GoOn r)) made.is (fills_est e (r + 1) made.value (GoOn r) refl (omega arith))

    by : (o : Option Bool) → option_and_then (λ coin. if stops v r coin then None else option_map (Est e (r + 1)) (next_bit v r coin)) o ≡ Some vote
        → Fills e (GoOn r) vote
    by None h = absurd (cc (h))
    by (Some coin) h = at (stops v r coin) (next_bit v r coin) h
choice_fills c i j e v (Decide r) vote h = by (v.coin r) h
  where
    by : (o : Option Bool) → option_and_then (λ coin. when (v.cast (pick r (single coin))) (Decided e coin)) o ≡ Some vote → Fills e (Decide r) vote
    by None h = absurd (cc (h))
    by (Some coin) h =
        subst (Fills e (Decide r)) (cond_some (v.cast (pick r (single coin))) (Decided e coin) vote h).1 (fills_decided e r coin)

-- ---- marks of what was cast

pub has-push : (e : ℕ) (mark : Mark) (own : List Vote) (vote : Vote) → has e mark (own ++ vote ∷ []) ≡ (bears e mark vote || has e mark own)
has-push e mark own vote =
    list_any-append (bears e mark) own (vote ∷ [])
    ∙ ap (λ (b : Bool). has e mark own || b) (or-false (bears e mark vote))
    ∙ turned (has e mark own) (bears e mark vote)
  where
    turned : (a b : Bool) → (a || b) ≡ (b || a)
    turned true true = refl
    turned true false = refl
    turned false true = refl
    turned false false = refl
