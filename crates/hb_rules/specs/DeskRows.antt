-- What a desk owes: three rows. The letters: epoch e, lane j.
use Rattle.std.specs.Prelude.{ℕ, zero, suc, ◌-◌, Bool, true, false, ◌==◌, nat_le, List, [], ◌∷◌, ◌++◌, Option, None, Some, if◌then◌else◌}
use Rattle.std.specs.Option.{option_map, option_and_then}
use Rattle.std.specs.List.{list_any}
use Rattle.hb_base.specs.Counting.{count_nodes}
use Rattle.hb_base.specs.Numbers.{Numbers}
use Rattle.hb_wire.specs.declared.items.Item.{Item}
use Rattle.hb_wire.specs.declared.vote.Vote.{Vote}
use Rattle.hb_wire.specs.declared.vote.Vote.TheVariants.{Propose, NoMore, Closed}
use Rattle.hb_rules.specs.Claims.{decided, delivered, is_bit, is_any_proposal, is_no_more, is_any_closing}
use Rattle.hb_rules.specs.Hearing.{Hearing}
use Rattle.hb_rules.specs.Desk.{is_open}
use Rattle.hb_rules.specs.Pool.{pool_value}
use Rattle.hb_rules.specs.Slots.{Slot, first_of, when}

-- the first decision that was heard of a lane, and the first value that it delivered
abbrev pub claimed_by : {A : Type 0} → ℕ → (Vote → Option A) → Hearing → Option A
claimed_by j claim h = if h.from == j then claim h.vote else None

abbrev pub decision_of : ℕ → List Hearing → ℕ → Option Bool
decision_of e heard j = first_of (claimed_by j (decided e)) heard

abbrev pub delivery_of : ℕ → List Hearing → ℕ → Option (List ℕ)
delivery_of e heard j = first_of (claimed_by j (delivered e)) heard

-- the items of a lane that has decided: none for 0, and for 1 the one with its value, once that is there
abbrev pub items_of : ℕ → Option (List ℕ) → Bool → Option (List Item)
items_of j value false = Some []
items_of j value true = option_map (λ bytes. record { node = j; value = bytes } ∷ []) value

-- the items of the lanes below j, rising, once all have decided and those with 1 have delivered
abbrev pub accepted_below : ℕ → List Hearing → ℕ → Option (List Item)
accepted_below e heard zero = Some []
accepted_below e heard (suc j) =
    option_and_then (λ items. option_map (λ more. items ++ more) (option_and_then (items_of j (delivery_of e heard j)) (decision_of e heard j)))
    (accepted_below e heard j)

unfoldable pub proposal_slot : Numbers → List (List ℕ) → ℕ → Slot Vote Hearing
proposal_slot c submitted e = record {
  is_cast = list_any (is_any_proposal e);
  choice = λ own heard. when (is_open e own) (Propose e (pool_value c submitted e own));
}

unfoldable pub no_more_slot : Numbers → ℕ → Slot Vote Hearing
no_more_slot c e = record {
  is_cast = list_any (is_no_more e);
  choice = λ own heard. when (nat_le (c.n - c.f) (count_nodes c.n (λ j. is_bit true (decision_of e heard j)))) (NoMore e);
}

unfoldable pub closing_slot : Numbers → ℕ → Slot Vote Hearing
closing_slot c e = record {
  is_cast = list_any (is_any_closing e);
  choice = λ own heard. if is_open e own then option_map (Closed e) (accepted_below e heard c.n) else None;
}

-- the rows, in their order
abbrev pub desk_rows : Numbers → List (List ℕ) → List (ℕ → List (Slot Vote Hearing))
desk_rows c submitted =
    (λ e. proposal_slot c submitted e ∷ []) ∷ (λ e. no_more_slot c e ∷ []) ∷ (λ e. closing_slot c e ∷ []) ∷ []
