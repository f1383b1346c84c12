-- What a desk owes, by tests. The letters: e is an epoch, j a lane.
use Rattle.std.proofs.Common.{◌≡◌, ◌↔◌, ℕ, zero, suc, ◌-◌, ◌<◌, Bool, true, false, not, ◌&&◌, ◌||◌, ◌==◌, nat_le, inl, inr, List, [], ◌∷◌, ◌++◌, Option, None, Some, if◌then◌else◌, is_some, refl, sym, ap, ◌∙◌, arith}
use Rattle.std.specs.List.{list_any}
use Rattle.std.specs.Option.{option_map, option_or, option_and_then}
use Rattle.std.proofs.lemmas.Bool.{or_parts, cases_eq}
use Rattle.hb_base.specs.Counting.{count_nodes}
use Rattle.hb_base.specs.Numbers.{Numbers}
use Rattle.hb_wire.specs.declared.items.Item.{Item}
use Rattle.hb_wire.specs.declared.vote.Vote.{Vote}
use Rattle.hb_wire.specs.declared.vote.Vote.TheVariants.{Propose, NoMore, Closed}
use Rattle.hb_rules.specs.Claims.{delivered, is_bit, is_any_proposal, is_no_more, is_any_closing, is_any_delivery}
use Rattle.hb_rules.specs.Desk.{is_open}
use Rattle.hb_rules.specs.DeskRows.{decision_of, delivery_of, items_of, accepted_below, proposal_slot, no_more_slot, closing_slot, desk_rows}
use Rattle.hb_rules.specs.Hearing.{Hearing, heard_by}
use Rattle.hb_rules.specs.Owing.{desk_slots}
use Rattle.hb_rules.specs.Pool.{pool_value}
use Rattle.hb_rules.specs.Slots.{Slot, IsIdle, when, of_epoch}
use Rattle.hb_rules.proofs.Passing.{IsSettledAt, settled_if_cast, settled_if_none, settled_parts, pass_settled, settled_idle}
use Rattle.quiet_check.specs.Desks.{is_known, owes_proposal, owes_no_more, owes_closing, owes_in}
use Rattle.quiet_check.proofs.Slots.{idle_epochs}

-- ---- what was heard of a lane

pub delivery_known : (e j : ℕ) (heard : List Hearing) → is_some (delivery_of e heard j) ≡ heard_by heard j (is_any_delivery e)
delivery_known e j [] = refl
delivery_known e j (h ∷ heard) = by (h.from == j) (delivered e h.vote) (delivery_known e j heard)
  where
    by : (b : Bool) (o : Option (List ℕ)) → is_some (delivery_of e heard j) ≡ heard_by heard j (is_any_delivery e)
        → is_some (option_or (if b then o else None) (delivery_of e heard j)) ≡ ((b && is_some o) || heard_by heard j (is_any_delivery e))
    by true (Some value) later = refl
    by true None later = later
    by false o later = later

-- what a lane that decided 1 comes to is known once it has delivered
pub known_one : (e j : ℕ) (heard : List Hearing) → decision_of e heard j ≡ Some true → is_known e heard j ≡ heard_by heard j (is_any_delivery e)
known_one e j heard one =
    ap (λ (o : Option Bool). is_some (option_and_then (items_of j (delivery_of e heard j)) o)) one
    ∙ by (delivery_of e heard j)
    ∙ delivery_known e j heard
  where
    by : (o : Option (List ℕ)) → is_some (items_of j o true) ≡ is_some o
    by None = refl
    by (Some value) = refl

pub known_next : (e j : ℕ) (heard : List Hearing) → is_some (accepted_below e heard j) ≡ true → is_known e heard j ≡ true
    → is_some (accepted_below e heard (suc j)) ≡ true
known_next e j heard below here = by (accepted_below e heard j) (option_and_then (items_of j (delivery_of e heard j)) (decision_of e heard j)) below here
  where
    by : (all one : Option (List Item)) → is_some all ≡ true → is_some one ≡ true
        → is_some (option_and_then (λ items. option_map (λ more. items ++ more) one) all) ≡ true
    by (Some items) (Some more) below here = refl
    by None one below here = absurd (cc (below))
    by (Some items) None below here = absurd (cc (here))

unknown_here : (e j : ℕ) (heard : List Hearing) → is_known e heard j ≡ false → is_some (accepted_below e heard (suc j)) ≡ false
unknown_here e j heard here = by (accepted_below e heard j) (option_and_then (items_of j (delivery_of e heard j)) (decision_of e heard j)) here
  where
    by : (all one : Option (List Item)) → is_some one ≡ false → is_some (option_and_then (λ items. option_map (λ more. items ++ more) one) all) ≡ false
    by None one here = refl
    by (Some items) None here = refl
    by (Some items) (Some more) here = absurd (cc (here))

unknown_later : (e j : ℕ) (heard : List Hearing) → is_some (accepted_below e heard j) ≡ false → is_some (accepted_below e heard (suc j)) ≡ false
unknown_later e j heard below = by (accepted_below e heard j) (option_and_then (items_of j (delivery_of e heard j)) (decision_of e heard j)) below
  where
    by : (all one : Option (List Item)) → is_some all ≡ false → is_some (option_and_then (λ items. option_map (λ more. items ++ more) one) all) ≡ false
    by None one below = refl
    by (Some items) one below = absurd (cc (below))

-- where it is not known what one lane comes to, nothing is known of all
pub unknown : (n e j : ℕ) (heard : List Hearing) → j < n → is_known e heard j ≡ false → is_some (accepted_below e heard n) ≡ false
unknown zero e j heard below here = absurd (omega arith)
unknown (suc n) e j heard below here = elim (cases_eq j n) [
  | inl same ↦ unknown_here e n heard (ap (λ (k : ℕ). is_known e heard k) (sym same) ∙ here)
  | inr other ↦ unknown_later e n heard (unknown n e j heard (less j n below other) here)
]
  where
    less : (j n : ℕ) → j < suc n → (j ≡ n → ⊥) → j < n
    less j n below other = omega arith

-- ---- slots, by tests

settled_if_not : (slot : Slot Vote Hearing) (own : List Vote) (heard : List Hearing) (b : Bool) → b ≡ (not (slot.is_cast own) && is_some (slot.choice own heard))
    → b ≡ false → IsSettledAt slot own heard
settled_if_not slot own heard b is fails = by (slot.is_cast own) (slot.choice own heard) refl refl (sym is ∙ fails)
  where
    by : (cast : Bool) (o : Option Vote) → slot.is_cast own ≡ cast → slot.choice own heard ≡ o → (not cast && is_some o) ≡ false → IsSettledAt slot own heard
    by true o is_cast is_choice h = settled_if_cast slot own heard is_cast
    by false None is_cast is_choice h = settled_if_none slot own heard is_choice
    by false (Some vote) is_cast is_choice h = absurd (cc (h))

not_if_settled : (slot : Slot Vote Hearing) (own : List Vote) (heard : List Hearing) (b : Bool) → b ≡ (not (slot.is_cast own) && is_some (slot.choice own heard))
    → IsSettledAt slot own heard → b ≡ false
not_if_settled slot own heard b is settled =
    settled_parts slot own heard settled (b ≡ false) (λ cast. is ∙ rw cast refl) (λ none. is ∙ rw none (and_no (not (slot.is_cast own))))
  where
    and_no : (a : Bool) → (a && false) ≡ false
    and_no true = refl
    and_no false = refl

some_when : (b : Bool) (vote : Vote) → is_some (when b vote) ≡ b
some_when true vote = refl
some_when false vote = refl

proposal_told : (c : Numbers) (submitted : List (List ℕ)) (e : ℕ) (own : List Vote) (heard : List Hearing)
    → owes_proposal e own ≡ (not ((proposal_slot c submitted e).is_cast own) && is_some ((proposal_slot c submitted e).choice own heard))
unfolding proposal_slot
proposal_told c submitted e own heard =
    ap (λ (b : Bool). not (list_any (is_any_proposal e) own) && b) (sym (some_when (is_open e own) (Propose e (pool_value c submitted e own))))

no_more_told : (c : Numbers) (e : ℕ) (own : List Vote) (heard : List Hearing)
    → owes_no_more c e own heard ≡ (not ((no_more_slot c e).is_cast own) && is_some ((no_more_slot c e).choice own heard))
unfolding no_more_slot
no_more_told c e own heard =
    ap (λ (b : Bool). not (list_any (is_no_more e) own) && b)
    (sym (some_when (nat_le (c.n - c.f) (count_nodes c.n (λ j. is_bit true (decision_of e heard j)))) (NoMore e)))

closing_told : (c : Numbers) (e : ℕ) (own : List Vote) (heard : List Hearing)
    → owes_closing c e own heard ≡ (not ((closing_slot c e).is_cast own) && is_some ((closing_slot c e).choice own heard))
unfolding closing_slot
closing_told c e own heard = ap (λ (b : Bool). not (list_any (is_any_closing e) own) && b) (by (is_open e own) (accepted_below e heard c.n))
  where
    by : (b : Bool) (o : Option (List Item)) → (b && is_some o) ≡ is_some (if b then option_map (Closed e) o else None)
    by true (Some items) = refl
    by true None = refl
    by false o = refl

-- ---- an epoch, and all

epoch_told : (c : Numbers) (submitted : List (List ℕ)) (e : ℕ) (own : List Vote) (heard : List Hearing)
    → (owes_in c e own heard ≡ false) ↔ IsIdle (of_epoch e (desk_rows c submitted)) own heard
epoch_told c submitted e own heard = (
  λ no.
      let one = or_parts (owes_proposal e own) (owes_no_more c e own heard || owes_closing c e own heard) no in
      let two = or_parts (owes_no_more c e own heard) (owes_closing c e own heard) one.1 in
      pass_settled (of_epoch e (desk_rows c submitted)) own heard (
        settled_if_not (proposal_slot c submitted e) own heard (owes_proposal e own) (proposal_told c submitted e own heard) one.0,
        (
          settled_if_not (no_more_slot c e) own heard (owes_no_more c e own heard) (no_more_told c e own heard) two.0,
          (settled_if_not (closing_slot c e) own heard (owes_closing c e own heard) (closing_told c e own heard) two.1, tt),
        ),
      ),
  λ idle.
      let all = settled_idle (of_epoch e (desk_rows c submitted)) own heard idle in
      let one = not_if_settled (proposal_slot c submitted e) own heard (owes_proposal e own) (proposal_told c submitted e own heard) all.0 in
      let two = not_if_settled (no_more_slot c e) own heard (owes_no_more c e own heard) (no_more_told c e own heard) all.1.0 in
      let three = not_if_settled (closing_slot c e) own heard (owes_closing c e own heard) (closing_told c e own heard) all.1.1.0 in
      none (owes_proposal e own) (owes_no_more c e own heard) (owes_closing c e own heard) one two three,
)
  where
    none : (a b d : Bool) → a ≡ false → b ≡ false → d ≡ false → (a || (b || d)) ≡ false
    none a b d one two three = rw (one, two, three) refl

-- where no epoch owes anything
pub desk_idle : (c : Numbers) (submitted : List (List ℕ)) (own : List Vote) (heard : List Hearing)
    → ((e : ℕ) → e < c.epochs → owes_in c e own heard ≡ false) → IsIdle (desk_slots c submitted) own heard
desk_idle c submitted own heard none =
    (idle_epochs c.epochs (desk_rows c submitted) own heard).1 (λ e below. (epoch_told c submitted e own heard).0 (none e below))

-- where one does
pub desk_owes : (c : Numbers) (submitted : List (List ℕ)) (own : List Vote) (heard : List Hearing) (e : ℕ) → e < c.epochs
    → owes_in c e own heard ≡ true → IsIdle (desk_slots c submitted) own heard → ⊥
desk_owes c submitted own heard e below owes idle =
    let no = (epoch_told c submitted e own heard).1 ((idle_epochs c.epochs (desk_rows c submitted) own heard).0 idle e below) in
    absurd (cc (sym owes ∙ no))
