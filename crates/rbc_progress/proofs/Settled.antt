-- The slots of a lane's broadcast where nothing is owed: one that has a choice is filled.
use Rattle.std.proofs.Common.{◌≡◌, ℕ, ◌+◌, ◌*◌, ◌<◌, ◌≤◌, ◌==◌, nat_le, true, List, [], ◌∷◌, ◌++◌, Contains, Option, None, Some, if◌then◌else◌, refl, sym, ap, ◌∙◌, subst, arith}
use Rattle.std.specs.List.{AllByRecursion}
use Rattle.std.specs.Option.{option_or, option_map, option_and_then, is_some}
use Rattle.std.proofs.lemmas.Bool.{both_ways, eq-eqb, le-leb}
use Rattle.hb_base.specs.Numbers.{Numbers}
use Rattle.hb_wire.specs.declared.vote.Vote.{Vote}
use Rattle.hb_wire.specs.declared.vote.Vote.TheVariants.{Ready, Delivered}
use Rattle.rs_shards.specs.Completing.{encoded}
use Rattle.hb_rules.specs.AgreementRows.{agreement_rows}
use Rattle.hb_rules.specs.BroadcastRows.{proposal_in, val_of, val_slot, echo_in, echo_slot, value_of, named, is_made_ready, ready_made, ready_slot, delivery_made, delivery_slot, broadcast_rows}
use Rattle.hb_rules.specs.Claims.{is_val_to, is_any_echo, is_any_ready, is_any_delivery}
use Rattle.hb_rules.specs.Code.{data_count, ready_count}
use Rattle.hb_rules.specs.Hearing.{Hearing, heard_by}
use Rattle.hb_rules.specs.Owing.{lane_slots}
use Rattle.hb_rules.specs.Slots.{Slot, each, first_of, IsIdle}
use Rattle.hb_rules.proofs.Among.{any_stands}
use Rattle.hb_rules.proofs.BroadcastParts.{some_where}
use Rattle.hb_rules.proofs.DeskVotes.{any_delivery-is}
use Rattle.hb_rules.proofs.Lists.{Contains-cases}
use Rattle.hb_rules.proofs.Passing.{IsSettledAt, settled_parts, settled_idle, idle_both}
use Rattle.hb_rules.proofs.Rows.{idle-rows}
use Rattle.rbc_progress.proofs.Marks.{IsVal, val-is, IsEcho, any_echo-is, any_ready-is, IsNamed}

-- ---- choices

-- a settled slot that has a choice is filled
filled : {V H : Type 0} (slot : Slot V H) (own : List V) (heard : List H) → IsSettledAt slot own heard → is_some (slot.choice own heard) ≡ true
    → slot.is_cast own ≡ true
filled {V} slot own heard settled some =
    settled_parts slot own heard settled (slot.is_cast own ≡ true) (λ cast. cast)
    (λ none. absurd (both_ways (is_some (slot.choice own heard)) (ap (λ (o : Option V). is_some o) none) some))

-- where an element gives a result, there is a first one
first_some : {A B : Type 0} (f : A → Option B) (xs : List A) (x : A) → Contains xs x → is_some (f x) ≡ true → is_some (first_of f xs) ≡ true
first_some f [] x stands some = absurd (omega (arith, stands.1))
first_some {A} {B} f (y ∷ ys) x stands some = by (f y) refl (first_some f ys x)
  where
    by : (o : Option B) → f y ≡ o → (Contains ys x → is_some (f x) ≡ true → is_some (first_of f ys) ≡ true) → is_some (option_or o (first_of f ys)) ≡ true
    by None none later =
        Contains-cases y ys x stands (is_some (first_of f ys) ≡ true)
        (λ is. absurd (both_ways (is_some (f x)) (ap (λ (z : A). is_some (f z)) (sym is) ∙ ap (λ (o : Option B). is_some o) none) some))
        (λ rest. later rest some)
    by (Some z) is later = refl

mapped_some : {A B : Type 0} (f : A → B) (o : Option A) → is_some o ≡ true → is_some (option_map f o) ≡ true
mapped_some f None some = some
mapped_some f (Some x) some = refl

-- ---- the rows of one epoch

module _ (c : Numbers) (i j e : ℕ) (own : List Vote) (heard : List Hearing) (idle : IsIdle (lane_slots c i j) own heard) (below : e < c.epochs) where
  idle_rows : AllByRecursion (λ row. IsIdle (row e) own heard) (broadcast_rows c i j ++ agreement_rows c i j)
  idle_rows = idle-rows c.epochs (broadcast_rows c i j ++ agreement_rows c i j) own heard idle e below

  val_settled : (m : ℕ) → m < c.n → IsSettledAt (val_slot c i j e m) own heard
  val_settled m node =
      let row : ℕ → List (Slot Vote Hearing) = λ m. val_slot c i j e m ∷ [] in
      let vals : IsIdle (each c.n row ++ []) own heard = idle_both (each c.n row) [] own heard idle_rows.0 refl in
      (settled_idle (val_slot c i j e m ∷ []) own heard (idle-rows c.n (row ∷ []) own heard vals m node).0).0

  -- Val: the lane of a sender that has heard its proposal has cast one to each node
  pub val_cast : (m : ℕ) → m < c.n → i ≡ j → (h : Hearing) → Contains heard h → is_some (proposal_in i e h) ≡ true
      → (vote : Vote) × Contains own vote × IsVal e m vote
  unfolding val_slot
  val_cast m node sender h stands proposes =
      let made : List ℕ → Vote = λ value. val_of e m (encoded c.n (data_count c) value) in
      let first = first_some (proposal_in i e) heard h stands proposes in
      let same : (i == j) ≡ true = eq-eqb i j sender in
      let some : is_some (if i == j then option_map made (first_of (proposal_in i e) heard) else None) ≡ true =
      rw same (mapped_some made (first_of (proposal_in i e) heard) first) in
      let found = any_stands (is_val_to e m) own (filled (val_slot c i j e m) own heard (val_settled m node) some) in
      (found.0, found.1, val-is e m found.0 found.2)

  -- Echo: a lane that has heard a valid Val of the sender has echoed one
  pub echo_cast : (h : Hearing) → Contains heard h → is_some (echo_in c.n e i j h) ≡ true → (vote : Vote) × Contains own vote × IsEcho e vote
  unfolding echo_slot
  echo_cast h stands makes =
      let settled = (settled_idle (echo_slot c i j e ∷ []) own heard idle_rows.1.0).0 in
      let some = first_some (echo_in c.n e i j) heard h stands makes in
      let found = any_stands (is_any_echo e) own (filled (echo_slot c i j e) own heard settled some) in
      (found.0, found.1, any_echo-is e found.0 found.2)

  -- what a root that was named makes, there is
  made_some : (made : List ℕ → Option Vote) (root : List ℕ) → IsNamed c.n e heard root → is_some (made root) ≡ true
      → is_some (first_of (λ h. option_and_then made (named c.n e h)) heard) ≡ true
  made_some made root name some =
      first_some (λ h. option_and_then made (named c.n e h)) heard name.hearing name.stands
      (ap (λ (o : Option (List ℕ)). is_some (option_and_then made o)) name.names ∙ some)

  -- Ready: a lane that has heard enough for some root is ready for one
  pub ready_cast : (root : List ℕ) → IsNamed c.n e heard root → is_made_ready c e heard root ≡ true
      → (other : List ℕ) × Contains own (Ready e other)
  unfolding ready_slot
  ready_cast root name enough =
      let settled = (settled_idle (ready_slot c e ∷ []) own heard idle_rows.1.1.0).0 in
      let some = made_some (ready_made c e heard) root name (some_where (is_made_ready c e heard root) (Ready e root) enough) in
      let found = any_stands (is_any_ready e) own (filled (ready_slot c e) own heard settled some) in
      let is = any_ready-is e found.0 found.2 in
      (is.0, subst (λ (v : Vote). Contains own v) is.1 found.1)

  -- Delivered: a lane that has heard 2f + 1 Readys for a root to which its shards rebuild has delivered
  pub delivery_cast : (root : List ℕ) → IsNamed c.n e heard root → 2 * c.f + 1 ≤ ready_count c.n e root (heard_by heard)
      → is_some (value_of c e heard root) ≡ true → (value : List ℕ) × Contains own (Delivered e value)
  unfolding delivery_slot
  delivery_cast root name enough rebuilds =
      let settled = (settled_idle (delivery_slot c e ∷ []) own heard idle_rows.1.1.1.0).0 in
      let passes : nat_le (2 * c.f + 1) (ready_count c.n e root (heard_by heard)) ≡ true = le-leb _ _ enough in
      let makes : is_some (delivery_made c e heard root) ≡ true = rw passes (mapped_some (Delivered e) (value_of c e heard root) rebuilds) in
      let some = made_some (delivery_made c e heard) root name makes in
      let found = any_stands (is_any_delivery e) own (filled (delivery_slot c e) own heard settled some) in
      let is = any_delivery-is e found.0 found.2 in
      (is.0, subst (λ (v : Vote). Contains own v) is.1 found.1)
