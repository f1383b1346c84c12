-- Where nothing was cast and nothing was heard, nothing is owed.
use Rattle.std.proofs.Common.{◌≡◌, ℕ, ◌+◌, Bool, true, false, [], Option, None, Some, if◌then◌else◌, ◌==◌, refl}
use Rattle.std.specs.Option.{option_map, option_and_then}
use Rattle.hb_base.specs.Numbers.{Numbers}
use Rattle.hb_wire.specs.declared.vote.Vote.{Vote}
use Rattle.hb_wire.specs.declared.vote.Vote.TheVariants.{Est, Decided, Pick}
use Rattle.hb_wire.specs.declared.vote.Vals.TheVariants.{Both}
use Rattle.hb_rules.specs.declared.agreement_slot.AgreementSlot.{AgreementSlot}
use Rattle.hb_rules.specs.declared.agreement_slot.AgreementSlot.TheVariants.{Begin, Support, Accept, ConfirmOne, ConfirmBoth, PickOne, PickBoth, ShowShare, GoOn, Decide}
use Rattle.hb_rules.specs.Hearing.{Hearing}
use Rattle.hb_rules.specs.Marks.{single, pick}
use Rattle.hb_rules.specs.Slots.{Slot, IsIdle, when}
use Rattle.hb_rules.specs.Owing.{lane_slots}
use Rattle.hb_rules.specs.BroadcastRows.{val_slot, val_of, echo_slot, ready_slot, delivery_slot}
use Rattle.hb_rules.specs.Code.{data_count}
use Rattle.hb_rules.specs.Agreement.{confirms}
use Rattle.hb_rules.specs.AgreementRows.{view_of, choice_of, agreement_slot, is_left_one, is_left_both, stops, next_bit}
use Rattle.rs_shards.specs.Completing.{encoded}
use Rattle.hb_rules.proofs.Passing.{IsSettledAt, settled_if_none, pass_settled}
use Rattle.hb_rules.proofs.LaneSlots.{lane_hold}
use Rattle.hb_rules.proofs.BroadcastParts.{rows_hold}
use Rattle.hb_rules.proofs.AgreementParts.{agreement_hold}

val_none : (c : Numbers) (i j e m : ℕ) → (val_slot c i j e m).choice [] [] ≡ None
unfolding val_slot
val_none c i j e m = by (i == j)
  where
    by : (b : Bool) → (if b then option_map (λ value. val_of e m (encoded c.n (data_count c) value)) None else None) ≡ None
    by true = refl
    by false = refl

echo_none : (c : Numbers) (i j e : ℕ) → (echo_slot c i j e).choice [] [] ≡ None
unfolding echo_slot
echo_none c i j e = refl

ready_none : (c : Numbers) (e : ℕ) → (ready_slot c e).choice [] [] ≡ None
unfolding ready_slot
ready_none c e = refl

delivery_none : (c : Numbers) (e : ℕ) → (delivery_slot c e).choice [] [] ≡ None
unfolding delivery_slot
delivery_none c e = refl

pub choice_none : (c : Numbers) (i j e : ℕ) (name : AgreementSlot) → choice_of c i j e name (view_of c i j e [] []) ≡ None
unfolding choice_of
choice_none c i j e (Begin true) = refl
choice_none c i j e (Begin false) = refl
choice_none c i j e (Support r b) = refl
choice_none c i j e (Accept r) = refl
choice_none c i j e (ConfirmOne r b) = refl
choice_none c i j e (ConfirmBoth r) = refl
choice_none c i j e (PickOne r b) = by (confirms c)
  where
    by : (confirm : Bool) → when (is_left_one confirm c (view_of c i j e [] []) r b) (Pick e r (single b)) ≡ None
    by true = refl
    by false = refl
choice_none c i j e (PickBoth r) = by (confirms c)
  where
    by : (confirm : Bool) → when (is_left_both confirm c (view_of c i j e [] []) r) (Pick e r Both) ≡ None
    by true = refl
    by false = refl
choice_none c i j e (ShowShare r) = refl
choice_none c i j e (GoOn r) = by ((view_of c i j e [] []).coin r)
  where
    by : (o : Option Bool)
        → option_and_then (λ coin. if stops (view_of c i j e [] []) r coin then None else option_map (Est e (r + 1)) (next_bit (view_of c i j e [] []) r coin)) o
        ≡ None
    by None = refl
    by (Some coin) = refl
choice_none c i j e (Decide r) = by ((view_of c i j e [] []).coin r)
  where
    by : (o : Option Bool) → option_and_then (λ coin. when ((view_of c i j e [] []).cast (pick r (single coin))) (Decided e coin)) o ≡ None
    by None = refl
    by (Some coin) = refl

slot_none : (c : Numbers) (i j e : ℕ) (name : AgreementSlot) → (agreement_slot c i j e name).choice [] [] ≡ None
unfolding agreement_slot
slot_none c i j e name = choice_none c i j e name

pub lane_starts : (c : Numbers) (i j : ℕ) → IsIdle (lane_slots c i j) [] []
lane_starts c i j =
    let settled : (slot : Slot Vote Hearing) → slot.choice [] [] ≡ None → IsSettledAt slot [] [] = λ slot none. settled_if_none slot [] [] none in
    pass_settled (lane_slots c i j) [] []
    (lane_hold (λ (slot : Slot Vote Hearing). IsSettledAt slot [] []) c i j
    (rows_hold (λ (e : ℕ) (slot : Slot Vote Hearing). IsSettledAt slot [] []) c i j
    (λ e m below. settled (val_slot c i j e m) (val_none c i j e m)) (λ e. settled (echo_slot c i j e) (echo_none c i j e))
    (λ e. settled (ready_slot c e) (ready_none c e)) (λ e. settled (delivery_slot c e) (delivery_none c e)))
    (agreement_hold (λ (e : ℕ) (slot : Slot Vote Hearing). IsSettledAt slot [] []) c i j
    (λ e name known. settled (agreement_slot c i j e name) (slot_none c i j e name))))
