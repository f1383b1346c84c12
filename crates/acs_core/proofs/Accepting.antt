-- The accepted items, lane by lane.
use Rattle.std.proofs.Common.{◌≡◌, ℕ, zero, suc, ◌<◌, ◌≤◌, Bool, List, [], ◌∷◌, ◌++◌, length, get_or, Option, None, Some, refl, ap, ap₂, ◌∙◌, arith, inl, inr}
use Rattle.std.specs.Option.{option_map, option_and_then}
use Rattle.std.proofs.lemmas.Bool.{cases_lt}
use Rattle.hb_wire.specs.declared.items.Item.{Item}
use Rattle.hb_wire.specs.declared.vote.Vote.{Vote}
use Rattle.hb_wire.specs.declared.vote.Vote.TheVariants.{Closed}
use Rattle.hb_rules.specs.DeskRows.{items_of, accepted_below}
use Rattle.hb_rules.specs.Hearing.{Hearing}
use Rattle.acs_core.specs.declared.shown.Shown.{Shown}
use Rattle.acs_core.specs.Shown.{shown_at, accepted_of}
use Rattle.acs_core.specs.Subset.{AcsView, Stands}

-- one lane more
abbrev with_lane : ℕ → Option (List ℕ) → Option Bool → Option (List Item) → Option (List Item)
with_lane j value decision before =
    option_and_then (λ items. option_map (λ more. items ++ more) (option_and_then (items_of j value) decision)) before

-- the table comes to what was heard
pub accepted_heard : (a : AcsView) (own : List Vote) (heard : List Hearing) → Stands a own heard
    → (j : ℕ) → j ≤ a.config.n → accepted_of a.lanes j ≡ accepted_below a.epoch heard j
accepted_heard a own heard stands zero le = refl
accepted_heard a own heard stands (suc j) le =
    ap (with_lane j (shown_at a.lanes j).value (shown_at a.lanes j).decision) (accepted_heard a own heard stands j (omega arith))
    ∙ ap₂ (λ (value : Option (List ℕ)) (decision : Option Bool). with_lane j value decision (accepted_below a.epoch heard j))
    (stands.values j (omega arith)) (stands.decisions j (omega arith))

-- where a lane holds the list up, there is none
pub accepted_none : (lanes : List Shown) (j n : ℕ) → accepted_of lanes j ≡ None → j ≤ n → accepted_of lanes n ≡ None
accepted_none lanes j zero none le = ap (accepted_of lanes) (let same : 0 ≡ j = omega arith in same) ∙ none
accepted_none lanes j (suc n) none le = elim (cases_lt n j) [
  | inl whole ↦ ap (accepted_of lanes) (let same : suc n ≡ j = omega arith in same) ∙ none
  | inr below ↦
      ap (with_lane n (shown_at lanes n).value (shown_at lanes n).decision) (accepted_none lanes j n none below)
]

-- the same where the lane's own item is not known
pub accepted_stops : (lanes : List Shown) (j n : ℕ) (items : List Item) → accepted_of lanes j ≡ Some items
    → option_map (λ more. items ++ more) (option_and_then (items_of j (shown_at lanes j).value) (shown_at lanes j).decision) ≡ None
    → j < n → accepted_of lanes n ≡ None
accepted_stops lanes j n items before none below =
    accepted_none lanes (suc j) n
    (ap (with_lane j (shown_at lanes j).value (shown_at lanes j).decision) before ∙ none)
    (omega arith)

-- the closing that the table gives is that of what was heard
pub closing_heard : (a : AcsView) (own : List Vote) (heard : List Hearing) (vote : Option Vote) → Stands a own heard
    → vote ≡ option_map (Closed a.epoch) (accepted_of a.lanes a.config.n) → vote ≡ option_map (Closed a.epoch) (accepted_below a.epoch heard a.config.n)
closing_heard a own heard vote stands is = is ∙ ap (option_map (Closed a.epoch)) (accepted_heard a own heard stands a.config.n (omega arith))

-- a read within a list does not look at what it gives beyond it
pub get_or_any : {A : Type 0} (xs : List A) (i : ℕ) (d e : A) → i < length xs → get_or xs i d ≡ get_or xs i e
get_or_any [] i d e below = absurd (omega arith)
get_or_any (x ∷ xs) zero d e below = refl
get_or_any (x ∷ xs) (suc i) d e below = get_or_any xs i d e (omega arith)
