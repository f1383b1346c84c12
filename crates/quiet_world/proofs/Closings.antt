-- Where nothing is owed, a desk has closed each epoch up to which all its lanes have finished.
use Rattle.std.proofs.Common.{◌≡◌, ℕ, zero, suc, ◌<◌, ◌≤◌, ◌==◌, Bool, true, false, List, [], ◌∷◌, ◌++◌, Contains, Option, None, Some, if◌then◌else◌, refl, sym, ap, ◌∙◌, arith}
use Rattle.std.specs.List.{list_any}
use Rattle.std.specs.Option.{option_or, option_map, option_and_then}
use Rattle.std.proofs.lemmas.Bool.{eq-eqb}
use Rattle.hb_base.specs.Numbers.{Numbers}
use Rattle.hb_wire.specs.declared.items.Item.{Item}
use Rattle.hb_wire.specs.declared.vote.Vote.{Vote}
use Rattle.hb_wire.specs.declared.vote.Vote.TheVariants.{Delivered, Decided, Closed}
use Rattle.hb_rules.specs.Claims.{decided, delivered, is_any_closing}
use Rattle.hb_rules.specs.Desk.{is_open}
use Rattle.hb_rules.specs.DeskRows.{claimed_by, decision_of, delivery_of, items_of, accepted_below, closing_slot, desk_rows}
use Rattle.hb_rules.specs.Hearing.{Hearing, hearing}
use Rattle.hb_rules.specs.Owing.{desk_slots}
use Rattle.hb_rules.specs.Slots.{first_of, of_epoch, IsIdle}
use Rattle.hb_rules.proofs.Lists.{Contains-cases}
use Rattle.hb_rules.proofs.Passing.{IsSettledAt, settled_parts, settled_idle}
use Rattle.hb_rules.proofs.Rows.{idle-epoch}

-- ---- the first that was heard

-- where an element gives a result, there is a first one
first_some : {A B : Type 0} (f : A → Option B) (xs : List A) (x : A) (y : B) → Contains xs x → f x ≡ Some y → (z : B) × (first_of f xs ≡ Some z)
first_some f [] x y stands gives = absurd (omega (arith, stands.1))
first_some {A} {B} f (w ∷ ws) x y stands gives = by (f w) refl (first_some f ws x y)
  where
    by : (o : Option B) → f w ≡ o → (Contains ws x → f x ≡ Some y → (z : B) × (first_of f ws ≡ Some z))
        → (z : B) × (option_or o (first_of f ws) ≡ Some z)
    by None none later =
        Contains-cases w ws x stands ((z : B) × (first_of f ws ≡ Some z)) (λ is. absurd (cc (sym none ∙ ap f is ∙ gives))) (λ rest. later rest gives)
    by (Some z) some later = (z, refl)

pub decision_some : (e j : ℕ) (heard : List Hearing) (bit : Bool) → Contains heard (hearing j (Decided e bit))
    → (b : Bool) × (decision_of e heard j ≡ Some b)
decision_some e j heard bit stands =
    first_some (claimed_by j (decided e)) heard (hearing j (Decided e bit)) bit stands
    (let lane : (j == j) ≡ true = eq-eqb j j refl in let epoch : (e == e) ≡ true = eq-eqb e e refl in rw (lane, epoch) refl)

pub delivery_some : (e j : ℕ) (heard : List Hearing) (value : List ℕ) → Contains heard (hearing j (Delivered e value))
    → (v : List ℕ) × (delivery_of e heard j ≡ Some v)
delivery_some e j heard value stands =
    first_some (claimed_by j (delivered e)) heard (hearing j (Delivered e value)) value stands
    (let lane : (j == j) ≡ true = eq-eqb j j refl in let epoch : (e == e) ≡ true = eq-eqb e e refl in rw (lane, epoch) refl)

-- ---- all lanes are accepted or not

-- the first decision of a lane is known, and its value where it is 1
pub record IsKnown (e : ℕ) (heard : List Hearing) (j : ℕ) : Type 0 where
  pub bit : Bool
  pub decided : decision_of e heard j ≡ Some bit
  pub delivered : bit ≡ true → (value : List ℕ) × (delivery_of e heard j ≡ Some value)

known_items : (e j : ℕ) (heard : List Hearing) → IsKnown e heard j
    → (more : List Item) × (option_and_then (items_of j (delivery_of e heard j)) (decision_of e heard j) ≡ Some more)
known_items e j heard known = by known.bit known.decided known.delivered
  where
    by : (bit : Bool) → decision_of e heard j ≡ Some bit → (bit ≡ true → (value : List ℕ) × (delivery_of e heard j ≡ Some value))
        → (more : List Item) × (option_and_then (items_of j (delivery_of e heard j)) (decision_of e heard j) ≡ Some more)
    by false is values = ([], ap (option_and_then (items_of j (delivery_of e heard j))) is)
    by true is values =
        let value = values refl in (
          record { node = j; value = value.0 } ∷ [],
          ap (option_and_then (items_of j (delivery_of e heard j))) is
              ∙ ap (option_map (λ (bytes : List ℕ). record { node = j; value = bytes } ∷ [])) value.1,
        )

pub all_accepted : (e : ℕ) (heard : List Hearing) (m : ℕ) → ((j : ℕ) → j < m → IsKnown e heard j)
    → (items : List Item) × (accepted_below e heard m ≡ Some items)
all_accepted e heard zero known = ([], refl)
all_accepted e heard (suc j) known =
    let before = all_accepted e heard j (λ k below. known k (omega arith)) in
    let more = known_items e j heard (known j (omega arith)) in (
      before.0 ++ more.0,
      ap (option_and_then (λ (items : List Item). option_map (λ (some : List Item). items ++ some)
          (option_and_then (items_of j (delivery_of e heard j)) (decision_of e heard j)))) before.1
          ∙ ap (option_map (λ (some : List Item). before.0 ++ some)) more.1,
    )

-- ---- the closing

closing_cast : (c : Numbers) (e : ℕ) (own : List Vote) (heard : List Hearing) (list : List Item) → IsSettledAt (closing_slot c e) own heard
    → is_open e own ≡ true → accepted_below e heard c.n ≡ Some list → list_any (is_any_closing e) own ≡ true
unfolding closing_slot
closing_cast c e own heard list settled opened accepted =
    settled_parts (closing_slot c e) own heard settled (list_any (is_any_closing e) own ≡ true) (λ cast. cast) (λ none.
    let some : (if is_open e own then option_map (Closed e) (accepted_below e heard c.n) else None) ≡ Some (Closed e list) =
    ap (λ (b : Bool). if b then option_map (Closed e) (accepted_below e heard c.n) else None) opened ∙ ap (option_map (Closed e)) accepted in
    absurd (cc (none, some)))

-- an open epoch is closed
pub closed_now : (c : Numbers) (submitted : List (List ℕ)) (own : List Vote) (heard : List Hearing) → IsIdle (desk_slots c submitted) own heard
    → (e : ℕ) → e < c.epochs → is_open e own ≡ true → ((j : ℕ) → j < c.n → IsKnown e heard j) → list_any (is_any_closing e) own ≡ true
closed_now c submitted own heard idle e below opened known =
    let accepted = all_accepted e heard c.n known in
    let settled = settled_idle (of_epoch e (desk_rows c submitted)) own heard (idle-epoch c.epochs (desk_rows c submitted) own heard idle e below) in
    closing_cast c e own heard accepted.0 settled.1.1.0 opened accepted.1

pub each_closed : (c : Numbers) (submitted : List (List ℕ)) (own : List Vote) (heard : List Hearing) → IsIdle (desk_slots c submitted) own heard
    → (e : ℕ) → e < c.epochs → ((d j : ℕ) → d ≤ e → j < c.n → IsKnown d heard j) → list_any (is_any_closing e) own ≡ true
each_closed c submitted own heard idle zero below known =
    closed_now c submitted own heard idle zero below refl (λ j lane. known zero j (omega arith) lane)
each_closed c submitted own heard idle (suc d) below known =
    closed_now c submitted own heard idle (suc d) below
    (each_closed c submitted own heard idle d (omega arith) (λ k j few lane. known k j (omega arith) lane))
    (λ j lane. known (suc d) j (omega arith) lane)
