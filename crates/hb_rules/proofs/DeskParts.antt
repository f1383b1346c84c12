-- The slots of the desk: what they make, that their votes fill them, and what they ask of own votes.
use Rattle.std.proofs.Common.{◌≡◌, ℕ, zero, suc, ◌-◌, ◌<◌, ◌≤◌, Bool, true, false, not, ◌==◌, nat_lt, nat_le, List, [], ◌++◌, take, Option, None, Some, if◌then◌else◌, refl, sym, ap, ap₂, ◌∙◌, arith}
use Rattle.std.proofs.Math.Path.{fun_ext}
use Rattle.std.specs.List.{AllByRecursion, filter}
use Rattle.std.specs.Option.{option_map, option_and_then}
use Rattle.std.proofs.lemmas.Bool.{eq-eqb, lt-leb, lt-ltb, ltb-true}
use Rattle.std.proofs.lemmas.Option.{cond_some}
use Rattle.hb_base.specs.Counting.{count_nodes}
use Rattle.hb_base.specs.Numbers.{Numbers, AreSound}
use Rattle.tx_pool.specs.Calls.{first_places}
use Rattle.hb_wire.specs.declared.items.Item.{Item}
use Rattle.hb_wire.specs.declared.vote.Vote.{Vote}
use Rattle.hb_wire.specs.declared.vote.Vote.TheVariants.{Propose, NoMore, Closed}
use Rattle.hb_wire.specs.Batches.{batch_bytes}
use Rattle.hb_rules.specs.Claims.{is_bit, is_any_proposal, is_no_more, is_any_closing}
use Rattle.hb_rules.specs.Hearing.{Hearing}
use Rattle.hb_rules.specs.Desk.{is_open}
use Rattle.hb_rules.specs.Pool.{settles_below, pool_value}
use Rattle.hb_rules.specs.Slots.{Slot, IsGuarded, IsForgetful}
use Rattle.hb_rules.specs.Owing.{lane_slots, desk_slots, slots_of}
use Rattle.hb_rules.specs.Tested.{IsTested}
use Rattle.hb_rules.specs.Same.{AreSame}
use Rattle.hb_rules.specs.DeskRows.{decision_of, delivery_of, items_of, accepted_below, proposal_slot, no_more_slot, closing_slot, desk_rows}
use Rattle.hb_rules.proofs.Counts.{count_nodes-none}
use Rattle.hb_rules.proofs.BroadcastParts.{any_filled, any_stays, some_where, mapped}

-- ---- what each slot makes

pub proposal_made : (c : Numbers) (submitted : List (List ℕ)) (e : ℕ) (own : List Vote) (heard : List Hearing) (vote : Vote)
    → (proposal_slot c submitted e).choice own heard ≡ Some vote
    → (is_open e own ≡ true) × (Propose e (pool_value c submitted e own) ≡ vote)
unfolding proposal_slot
proposal_made c submitted e own heard vote h = cond_some (is_open e own) (Propose e (pool_value c submitted e own)) vote h

-- how many lanes have decided 1, by the first decision that was heard of each
abbrev pub ones : Numbers → ℕ → List Hearing → ℕ
ones c e heard = count_nodes c.n (λ j. is_bit true (decision_of e heard j))

pub no_more_made : (c : Numbers) (e : ℕ) (own : List Vote) (heard : List Hearing) (vote : Vote) → (no_more_slot c e).choice own heard ≡ Some vote
    → (nat_le (c.n - c.f) (ones c e heard) ≡ true) × (NoMore e ≡ vote)
unfolding no_more_slot
no_more_made c e own heard vote h = cond_some (nat_le (c.n - c.f) (ones c e heard)) (NoMore e) vote h

-- the list with which an open epoch is closed
pub record IsClosingMade (c : Numbers) (e : ℕ) (own : List Vote) (heard : List Hearing) (vote : Vote) : Type 0 where
  pub open_now : is_open e own ≡ true
  pub list : List Item
  pub was : accepted_below e heard c.n ≡ Some list
  pub is : Closed e list ≡ vote

pub closing_made : (c : Numbers) (e : ℕ) (own : List Vote) (heard : List Hearing) (vote : Vote) → (closing_slot c e).choice own heard ≡ Some vote
    → IsClosingMade c e own heard vote
unfolding closing_slot
closing_made c e own heard vote h = by (is_open e own) refl h
  where
    by : (b : Bool) → is_open e own ≡ b → (if b then option_map (Closed e) (accepted_below e heard c.n) else None) ≡ Some vote
        → IsClosingMade c e own heard vote
    by true open_now h =
        let made = mapped (λ (list : List Item). Closed e list) (accepted_below e heard c.n) vote h in
        record { open_now = open_now; list = made.value; was = made.was; is = made.is }
    by false shut h = absurd (cc (h))

-- ---- their votes fill them

pub proposal_slot-guarded : (c : Numbers) (submitted : List (List ℕ)) (e : ℕ) → IsGuarded (proposal_slot c submitted e)
unfolding proposal_slot
proposal_slot-guarded c submitted e = record {
  filled = λ own heard vote some.
      any_filled (is_any_proposal e) own vote
      (ap (is_any_proposal e) (sym (proposal_made c submitted e own heard vote some).1)
      ∙ some_where (e == e) (pool_value c submitted e own) (eq-eqb e e refl));
  stays = any_stays (is_any_proposal e);
}

pub no_more_slot-guarded : (c : Numbers) (e : ℕ) → IsGuarded (no_more_slot c e)
unfolding no_more_slot
no_more_slot-guarded c e = record {
  filled = λ own heard vote some.
      any_filled (is_no_more e) own vote (ap (is_no_more e) (sym (no_more_made c e own heard vote some).1) ∙ eq-eqb e e refl);
  stays = any_stays (is_no_more e);
}

pub closing_slot-guarded : (c : Numbers) (e : ℕ) → IsGuarded (closing_slot c e)
unfolding closing_slot
closing_slot-guarded c e = record {
  filled = λ own heard vote some.
      let made = closing_made c e own heard vote some in
      any_filled (is_any_closing e) own vote (ap (is_any_closing e) (sym made.is) ∙ some_where (e == e) made.list (eq-eqb e e refl));
  stays = any_stays (is_any_closing e);
}

-- ---- own votes count by tests alone

pub is_open-same : (e : ℕ) (own other : List Vote) → AreSame own other → is_open e own ≡ is_open e other
is_open-same zero own other same = refl
is_open-same (suc e) own other same = same.tests (is_any_closing e)

pub pool_value-same : (c : Numbers) (submitted : List (List ℕ)) (e : ℕ) (own other : List Vote) → AreSame own other
    → pool_value c submitted e own ≡ pool_value c submitted e other
pool_value-same c submitted e own other same =
    ap (λ (left : List ℕ → Bool). batch_bytes (take c.batch (filter left (first_places submitted))))
    (fun_ext (λ tx. ap not (same.tests (settles_below e tx))))

pub proposal_slot-tested : (c : Numbers) (submitted : List (List ℕ)) (e : ℕ) → IsTested (proposal_slot c submitted e)
unfolding proposal_slot
proposal_slot-tested c submitted e = record {
  cast = λ own other same. same.tests (is_any_proposal e);
  choice = λ own other heard same.
      ap₂ (λ (b : Bool) (value : List ℕ). if b then Some (Propose e value) else None) (is_open-same e own other same)
      (pool_value-same c submitted e own other same);
}

pub no_more_slot-tested : (c : Numbers) (e : ℕ) → IsTested (no_more_slot c e)
unfolding no_more_slot
no_more_slot-tested c e = record { cast = λ own other same. same.tests (is_no_more e); choice = λ own other heard same. refl }

pub closing_slot-tested : (c : Numbers) (e : ℕ) → IsTested (closing_slot c e)
unfolding closing_slot
closing_slot-tested c e = record {
  cast = λ own other same. same.tests (is_any_closing e);
  choice = λ own other heard same.
      ap (λ (b : Bool). if b then option_map (Closed e) (accepted_below e heard c.n) else None) (is_open-same e own other same);
}

-- ---- where nothing was heard, no more is made

pub proposal_slot-forgets : (c : Numbers) (submitted : List (List ℕ)) (e : ℕ) → IsForgetful (proposal_slot c submitted e)
unfolding proposal_slot
proposal_slot-forgets c submitted e = record { forgets = λ own heard none. none }

pub no_more_slot-forgets : (c : Numbers) → AreSound c → (e : ℕ) → IsForgetful (no_more_slot c e)
unfolding no_more_slot
no_more_slot-forgets c sound e = record {
  forgets = λ own heard none.
      let nobody : ones c e [] ≡ 0 = count_nodes-none c.n (λ j. is_bit true (decision_of e [] j)) (λ j. refl) in
      let few : nat_le (c.n - c.f) (ones c e []) ≡ false = lt-leb (c.n - c.f) (ones c e []) (omega (arith, sound.enough)) in
      rw few refl;
}

-- no lane has decided, so not all have
nothing_accepted : (e n : ℕ) → 1 ≤ n → accepted_below e [] n ≡ None
nothing_accepted e zero some = absurd (omega arith)
nothing_accepted e (suc j) some = by (accepted_below e [] j)
  where
    by : (o : Option (List Item))
        → option_and_then (λ (items : List Item). option_map (λ (more : List Item). items ++ more) (option_and_then (items_of j (delivery_of e [] j)) (decision_of e [] j))) o ≡ None
    by None = refl
    by (Some items) = refl

pub closing_slot-forgets : (c : Numbers) → AreSound c → (e : ℕ) → IsForgetful (closing_slot c e)
unfolding closing_slot
closing_slot-forgets c sound e = record { forgets = λ own heard none. by own (is_open e own) }
  where
    by : (own : List Vote) (b : Bool) → (if b then option_map (Closed e) (accepted_below e [] c.n) else None) ≡ None
    by own true = ap (option_map (λ (list : List Item). Closed e list)) (nothing_accepted e c.n sound.nodes.0)
    by own false = refl

-- ---- all slots of the rows

-- what holds of the slots of each kind holds of all
pub desk_hold : (P : ℕ → Slot Vote Hearing → Type 0) (c : Numbers) (submitted : List (List ℕ))
    → ((e : ℕ) → P e (proposal_slot c submitted e)) → ((e : ℕ) → P e (no_more_slot c e)) → ((e : ℕ) → P e (closing_slot c e))
    → AllByRecursion (λ row. (e : ℕ) → AllByRecursion (P e) (row e)) (desk_rows c submitted)
desk_hold P c submitted proposal no_more closing =
    (λ e. (proposal e, tt), (λ e. (no_more e, tt), (λ e. (closing e, tt), tt)))

pub desk-guarded : (c : Numbers) (submitted : List (List ℕ)) → AllByRecursion (λ row. (e : ℕ) → AllByRecursion IsGuarded (row e)) (desk_rows c submitted)
desk-guarded c submitted =
    desk_hold (λ e slot. IsGuarded slot) c submitted
    (λ e. proposal_slot-guarded c submitted e) (λ e. no_more_slot-guarded c e) (λ e. closing_slot-guarded c e)

pub desk-tested : (c : Numbers) (submitted : List (List ℕ)) → AllByRecursion (λ row. (e : ℕ) → AllByRecursion IsTested (row e)) (desk_rows c submitted)
desk-tested c submitted =
    desk_hold (λ e slot. IsTested slot) c submitted
    (λ e. proposal_slot-tested c submitted e) (λ e. no_more_slot-tested c e) (λ e. closing_slot-tested c e)

pub desk-forgets : (c : Numbers) → AreSound c → (submitted : List (List ℕ))
    → AllByRecursion (λ row. (e : ℕ) → AllByRecursion IsForgetful (row e)) (desk_rows c submitted)
desk-forgets c sound submitted =
    desk_hold (λ e slot. IsForgetful slot) c submitted
    (λ e. proposal_slot-forgets c submitted e) (λ e. no_more_slot-forgets c sound e) (λ e. closing_slot-forgets c sound e)

-- the slots of an actor below n are a lane's
pub slots_of-lane : (c : Numbers) (submitted : List (List ℕ)) (i j : ℕ) → j < c.n → slots_of c submitted i j ≡ lane_slots c i j
slots_of-lane c submitted i j lane = let inside : nat_lt j c.n ≡ true = lt-ltb j c.n lane in rw inside refl

-- the slots of actor n are the desk's
pub slots_of-desk : (c : Numbers) (submitted : List (List ℕ)) (i : ℕ) → slots_of c submitted i c.n ≡ desk_slots c submitted
slots_of-desk c submitted i = by (nat_lt c.n c.n) (c.n == c.n) refl (eq-eqb c.n c.n refl)
  where
    by : (lane desk : Bool) → nat_lt c.n c.n ≡ lane → desk ≡ true
        → (if lane then lane_slots c i c.n else (if desk then desk_slots c submitted else [])) ≡ desk_slots c submitted
    by true desk is_lane is_desk = absurd (omega (arith, ltb-true c.n c.n is_lane))
    by false true is_lane is_desk = refl
    by false false is_lane is_desk = absurd (cc (is_desk))
