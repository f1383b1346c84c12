-- Votes that a desk may have cast, and after which it owes nothing, or nothing but the first proposal, are in order.
use Rattle.std.proofs.Common.{◌≡◌, ℕ, zero, suc, ◌<◌, Bool, true, false, ◌&&◌, ◌||◌, ◌==◌, List, [], ◌∷◌, ◌++◌, None, Some, if◌then◌else◌, refl, sym, ◌∙◌, subst, append_assoc, append-nil, arith}
use Rattle.std.specs.List.{list_any}
use Rattle.std.specs.Option.{is_some}
use Rattle.std.proofs.lemmas.Bool.{eqb-true, and_parts}
use Rattle.std.proofs.lemmas.List.Folds.{list_any-append}
use Rattle.hb_base.specs.Numbers.{Numbers}
use Rattle.hb_wire.specs.declared.vote.Vote.{Vote}
use Rattle.hb_wire.specs.declared.vote.Vote.TheVariants.{Decided, Propose, NoMore, Closed}
use Rattle.hb_wire.specs.Votes.{epoch_of}
use Rattle.hb_rules.specs.Claims.{is_decision, is_bit, is_any_proposal, is_any_closing}
use Rattle.hb_rules.specs.Desk.{is_open, MayAtDesk}
use Rattle.hb_rules.specs.DeskRows.{proposal_slot}
use Rattle.hb_rules.specs.Hearing.{Hearing, heard_by}
use Rattle.hb_rules.specs.Owing.{desk_slots}
use Rattle.hb_rules.specs.Slots.{IsIdle}
use Rattle.hb_rules.specs.Turns.{InTurn}
use Rattle.hb_rules.proofs.Passing.{settled_idle}
use Rattle.hb_rules.proofs.Rows.{idle-rows}
use Rattle.hb_rules.specs.DeskRows.{desk_rows}
use Rattle.epoch_core.specs.Epochs.{AreInOrder, AreWithin}
use Rattle.epoch_core.proofs.DeskSlots.{proposal_owed}
use Rattle.epoch_core.proofs.VoteKinds.{any_stays}

-- ---- votes cast in turn

-- closings and proposals are each of an open epoch, and closings of one that the run has
record AreOpen (c : Numbers) (own : List Vote) : Type 0 where
  within : (e : ℕ) → list_any (is_any_closing e) own ≡ true → e < c.epochs
  closings : (e : ℕ) → list_any (is_any_closing e) own ≡ true → is_open e own ≡ true
  proposals : (e : ℕ) → list_any (is_any_proposal e) own ≡ true → is_open e own ≡ true

open_more : (e : ℕ) (own more : List Vote) → is_open e own ≡ true → is_open e (own ++ more) ≡ true
open_more zero own more h = refl
open_more (suc e) own more h = any_stays (is_any_closing e) own more h

-- a test passes on votes before, or on the last
any_last : (test : Vote → Bool) (own : List Vote) (v : Vote) → list_any test (own ++ v ∷ []) ≡ true → (P : Type 0)
    → (list_any test own ≡ true → P) → (test v ≡ true → P) → P
any_last test own v passes P before last = by (list_any test own) (test v) refl refl (sym (list_any-append test own (v ∷ [])) ∙ passes)
  where
    by : (a b : Bool) → list_any test own ≡ a → test v ≡ b → (a || (b || false)) ≡ true → P
    by true b is_a is_b h = before is_a
    by false true is_a is_b h = last is_b
    by false false is_a is_b h = absurd (cc (h))

-- what one vote has to meet
record IsOpenVote (c : Numbers) (own : List Vote) (v : Vote) : Type 0 where
  within : (e : ℕ) → is_any_closing e v ≡ true → e < c.epochs
  closing : (e : ℕ) → is_any_closing e v ≡ true → is_open e own ≡ true
  proposal : (e : ℕ) → is_any_proposal e v ≡ true → is_open e own ≡ true

AreOpen-push : (c : Numbers) (own : List Vote) (v : Vote) → AreOpen c own → IsOpenVote c own v → AreOpen c (own ++ v ∷ [])
AreOpen-push c own v are is = record {
  within = λ e passes. any_last (is_any_closing e) own v passes (e < c.epochs) (are.within e) (is.within e);
  closings = λ e passes. any_last (is_any_closing e) own v passes (is_open e (own ++ v ∷ []) ≡ true)
      (λ before. open_more e own (v ∷ []) (are.closings e before)) (λ last. open_more e own (v ∷ []) (is.closing e last));
  proposals = λ e passes. any_last (is_any_proposal e) own v passes (is_open e (own ++ v ∷ []) ≡ true)
      (λ before. open_more e own (v ∷ []) (are.proposals e before)) (λ last. open_more e own (v ∷ []) (is.proposal e last));
}

some_at : {A : Type 0} (d e : ℕ) (x : A) → is_some (if d == e then Some x else None) ≡ true → d ≡ e
some_at {A} d e x h = by (d == e) refl h
  where
    by : (b : Bool) → (d == e) ≡ b → is_some (if b then Some x else None) ≡ true → d ≡ e
    by true same h = eqb-true d e same
    by false same h = absurd (cc (h))

decision_at : (e : ℕ) (b : Bool) (v : Vote) → is_decision e b v ≡ true → epoch_of v ≡ e
decision_at e b (Decided d bit) h = by (d == e) refl h
  where
    by : (s : Bool) → (d == e) ≡ s → is_bit b (if s then Some bit else None) ≡ true → d ≡ e
    by true same h = eqb-true d e same
    by false same h = absurd (cc (h))
decision_at e b v h = absurd (cc (h))

-- a decision was heard of an epoch that the run has
heard_within : (c : Numbers) (e j : ℕ) (b : Bool) (heard : List Hearing) → AreWithin c heard → heard_by heard j (is_decision e b) ≡ true → e < c.epochs
heard_within c e j b [] within passes = absurd (cc (passes))
heard_within c e j b (h ∷ heard) within passes = by ((h.from == j) && is_decision e b h.vote) refl passes (heard_within c e j b heard within.1)
  where
    by : (here : Bool) → ((h.from == j) && is_decision e b h.vote) ≡ here → (here || list_any (λ h. (h.from == j) && is_decision e b h.vote) heard) ≡ true
        → (list_any (λ h. (h.from == j) && is_decision e b h.vote) heard ≡ true → e < c.epochs) → e < c.epochs
    by true is h later =
        let at = decision_at e b _ (and_parts (_ == j) (is_decision e b _) is).1 in
        omega (arith, within.0, at)
    by false is h later = later h

may_be : (c : Numbers) (own : List Vote) (heard : List Hearing) (v : Vote) → 0 < c.n → AreWithin c heard → MayAtDesk c own heard v → IsOpenVote c own v
may_be c own heard (Propose d value) some within may = record {
  within = λ e closes. absurd (cc (closes));
  closing = λ e closes. absurd (cc (closes));
  proposal = λ e passes. subst (λ (e : ℕ). is_open e own ≡ true) (some_at d e value passes) may.1;
}
may_be c own heard (NoMore d) some within may = record {
  within = λ e closes. absurd (cc (closes));
  closing = λ e closes. absurd (cc (closes));
  proposal = λ e passes. absurd (cc (passes));
}
may_be c own heard (Closed d list) some within may = record {
  within = λ e closes.
      subst (λ (e : ℕ). e < c.epochs) (some_at d e list closes)
      (heard_within c d 0 ((may.1).bits 0) heard within ((may.1).decided 0 some));
  closing = λ e closes. subst (λ (e : ℕ). is_open e own ≡ true) (some_at d e list closes) may.0;
  proposal = λ e passes. absurd (cc (passes));
}
may_be c own heard v some within may = absurd may

in_turn : (c : Numbers) (heard : List Hearing) (own votes : List Vote) → 0 < c.n → AreWithin c heard → AreOpen c own
    → InTurn (λ own v. MayAtDesk c own heard v) own votes → AreOpen c (own ++ votes)
in_turn c heard own [] some within are turns = subst (AreOpen c) (sym (append-nil own)) are
in_turn c heard own (v ∷ votes) some within are turns =
    subst (AreOpen c) (append_assoc own (v ∷ []) votes)
    (in_turn c heard (own ++ v ∷ []) votes some within (AreOpen-push c own v are (may_be c own heard v some within turns.0)) turns.1)

-- ---- and after which nothing is owed, or nothing but the first proposal

-- where nothing is owed, each open epoch of the run has a proposal
open_proposed : (c : Numbers) (submitted : List (List ℕ)) (own : List Vote) (e : ℕ) → IsIdle (desk_slots c submitted) own [] → e < c.epochs
    → is_open e own ≡ true → list_any (is_any_proposal e) own ≡ true
open_proposed c submitted own e idle below opened =
    proposal_owed c submitted e own []
    (settled_idle (proposal_slot c submitted e ∷ []) own [] ((idle-rows c.epochs (desk_rows c submitted) own [] idle e below).0)).0
    opened

-- a proposal for the first epoch is one for no later epoch
proposed_before : (own : List Vote) (value : List ℕ) (e : ℕ) → 0 < e → list_any (is_any_proposal e) (own ++ Propose 0 value ∷ []) ≡ true
    → list_any (is_any_proposal e) own ≡ true
proposed_before own value e above passes =
    any_last (is_any_proposal e) own (Propose 0 value) passes (list_any (is_any_proposal e) own ≡ true)
    (λ before. before)
    (λ last. let at : 0 ≡ e = some_at 0 e value last in absurd (omega (arith, above, at)))

in_order_where : (c : Numbers) (heard : List Hearing) (own : List Vote) → 0 < c.n → AreWithin c heard
    → InTurn (λ own v. MayAtDesk c own heard v) [] own
    → ((e : ℕ) → 0 < e → e < c.epochs → is_open e own ≡ true → list_any (is_any_proposal e) own ≡ true)
    → AreInOrder c own
in_order_where c heard own some within turns proposed =
    let are : AreOpen c own =
    in_turn c heard [] own some within
    (record { within = λ e passes. absurd (cc (passes)); closings = λ e passes. absurd (cc (passes)); proposals = λ e passes. absurd (cc (passes)) }) turns in
    record {
      within = are.within;
      closings = are.closings;
      proposals = are.proposals;
      proposed = proposed;
    }

pub in_order : (c : Numbers) (submitted : List (List ℕ)) (heard : List Hearing) (own : List Vote) → 0 < c.n → AreWithin c heard
    → InTurn (λ own v. MayAtDesk c own heard v) [] own → IsIdle (desk_slots c submitted) own [] → AreInOrder c own
in_order c submitted heard own some within turns idle =
    in_order_where c heard own some within turns (λ e above below opened. open_proposed c submitted own e idle below opened)

pub in_order_unproposed : (c : Numbers) (submitted : List (List ℕ)) (heard : List Hearing) (own : List Vote) (value : List ℕ) → 0 < c.n
    → AreWithin c heard → InTurn (λ own v. MayAtDesk c own heard v) [] own
    → IsIdle (desk_slots c submitted) (own ++ Propose 0 value ∷ []) [] → AreInOrder c own
in_order_unproposed c submitted heard own value some within turns idle =
    in_order_where c heard own some within turns
    (λ e above below opened.
    proposed_before own value e above
    (open_proposed c submitted (own ++ Propose 0 value ∷ []) e idle below (open_more e own (Propose 0 value ∷ []) opened)))
