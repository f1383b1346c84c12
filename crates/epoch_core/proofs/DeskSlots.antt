-- The slots of a desk one by one: when each is settled, and what it makes.
use Rattle.std.proofs.Common.{◌≡◌, ℕ, zero, suc, ◌<◌, ◌≤◌, Bool, true, false, List, [], ◌∷◌, ◌++◌, Option, None, Some, if◌then◌else◌, refl, ap, ap₂, ◌∙◌, arith}
use Rattle.std.specs.List.{list_any}
use Rattle.std.specs.Option.{option_map, option_to_list}
use Rattle.hb_base.specs.Numbers.{Numbers}
use Rattle.hb_wire.specs.declared.items.Item.{Item}
use Rattle.hb_wire.specs.declared.vote.Vote.{Vote}
use Rattle.hb_wire.specs.declared.vote.Vote.TheVariants.{Propose, Closed}
use Rattle.hb_rules.specs.Claims.{is_any_proposal, is_any_closing}
use Rattle.hb_rules.specs.Desk.{is_open}
use Rattle.hb_rules.specs.DeskRows.{proposal_slot, closing_slot, accepted_below}
use Rattle.hb_rules.specs.Hearing.{Hearing}
use Rattle.hb_rules.specs.Pool.{pool_value}
use Rattle.hb_rules.specs.Slots.{owes, when}
use Rattle.hb_rules.proofs.Passing.{IsSettledAt, settled_if_cast, settled_if_none}
use Rattle.epoch_core.specs.Epochs.{HasClosed, HasProposed}
use Rattle.epoch_core.proofs.VoteKinds.{any_stays, any_neither}

-- ---- proposals

pub proposal_cast : (c : Numbers) (submitted : List (List ℕ)) (e : ℕ) (own : List Vote) (heard : List Hearing)
    → list_any (is_any_proposal e) own ≡ true → IsSettledAt (proposal_slot c submitted e) own heard
unfolding proposal_slot
proposal_cast c submitted e own heard cast = settled_if_cast (proposal_slot c submitted e) own heard cast

pub proposal_shut : (c : Numbers) (submitted : List (List ℕ)) (e : ℕ) (own : List Vote) (heard : List Hearing)
    → is_open e own ≡ false → IsSettledAt (proposal_slot c submitted e) own heard
unfolding proposal_slot
proposal_shut c submitted e own heard shut =
    settled_if_none (proposal_slot c submitted e) own heard (ap (λ (b : Bool). when b (Propose e (pool_value c submitted e own))) shut)

pub proposal_made : (c : Numbers) (submitted : List (List ℕ)) (e : ℕ) (own : List Vote) (heard : List Hearing)
    → list_any (is_any_proposal e) own ≡ false → is_open e own ≡ true
    → owes (proposal_slot c submitted e) own heard ≡ Propose e (pool_value c submitted e own) ∷ []
unfolding proposal_slot
proposal_made c submitted e own heard none opened =
    ap₂ (λ (b o : Bool). if b then [] else option_to_list (when o (Propose e (pool_value c submitted e own)))) none opened

-- a settled slot of an open epoch is cast
pub proposal_owed : (c : Numbers) (submitted : List (List ℕ)) (e : ℕ) (own : List Vote) (heard : List Hearing)
    → IsSettledAt (proposal_slot c submitted e) own heard → is_open e own ≡ true → list_any (is_any_proposal e) own ≡ true
unfolding proposal_slot
proposal_owed c submitted e own heard settled opened =
    by (list_any (is_any_proposal e) own) (is_open e own) (Propose e (pool_value c submitted e own)) opened settled.none
  where
    by : (cast o : Bool) (v : Vote) → o ≡ true → (if cast then [] else option_to_list (when o v)) ≡ [] → cast ≡ true
    by true o v is none = refl
    by false true v is none = absurd (cc (none))
    by false false v is none = absurd (cc (is))

-- ---- closings

pub closing_cast : (c : Numbers) (e : ℕ) (own : List Vote) (heard : List Hearing) → list_any (is_any_closing e) own ≡ true
    → IsSettledAt (closing_slot c e) own heard
unfolding closing_slot
closing_cast c e own heard cast = settled_if_cast (closing_slot c e) own heard cast

pub closing_shut : (c : Numbers) (e : ℕ) (own : List Vote) (heard : List Hearing) → is_open e own ≡ false → IsSettledAt (closing_slot c e) own heard
unfolding closing_slot
closing_shut c e own heard shut =
    settled_if_none (closing_slot c e) own heard
    (ap (λ (b : Bool). if b then option_map (Closed e) (accepted_below e heard c.n) else None) shut)

pub closing_waits : (c : Numbers) (e : ℕ) (own : List Vote) (heard : List Hearing) → accepted_below e heard c.n ≡ None
    → IsSettledAt (closing_slot c e) own heard
unfolding closing_slot
closing_waits c e own heard none =
    settled_if_none (closing_slot c e) own heard
    (ap (λ (o : Option (List Item)). if is_open e own then option_map (Closed e) o else None) none ∙ by (is_open e own))
  where
    by : (b : Bool) → (if b then option_map (Closed e) None else None) ≡ None
    by true = refl
    by false = refl

pub closing_made : (c : Numbers) (e : ℕ) (own : List Vote) (heard : List Hearing) (list : List Item)
    → list_any (is_any_closing e) own ≡ false → is_open e own ≡ true → accepted_below e heard c.n ≡ Some list
    → owes (closing_slot c e) own heard ≡ Closed e list ∷ []
unfolding closing_slot
closing_made c e own heard list none opened accepted =
    ap₂ (λ (b o : Bool). if b then [] else option_to_list (if o then option_map (Closed e) (accepted_below e heard c.n) else None)) none opened
    ∙ ap (λ (l : Option (List Item)). option_to_list (option_map (Closed e) l)) accepted

-- ---- open epochs

pub open_at : (epochs closed e : ℕ) (own : List Vote) → HasClosed epochs closed own → e ≤ closed → is_open e own ≡ true
open_at epochs closed zero own has le = refl
open_at epochs closed (suc e) own has le = has.below e (omega arith)

pub shut_at : (epochs closed e : ℕ) (own : List Vote) → HasClosed epochs closed own → closed < e → e < epochs → is_open e own ≡ false
shut_at epochs closed zero own has above below = absurd (omega arith)
shut_at epochs closed (suc e) own has above below = has.above e (omega arith) (omega arith)

-- ---- more votes

pub HasClosed-more : (epochs closed : ℕ) (own more : List Vote) → ((e : ℕ) → list_any (is_any_closing e) more ≡ false)
    → HasClosed epochs closed own → HasClosed epochs closed (own ++ more)
HasClosed-more epochs closed own more none has = record {
  below = λ e below. any_stays (is_any_closing e) own more (has.below e below);
  above = λ e above below. any_neither (is_any_closing e) own more (has.above e above below) (none e);
}

pub HasProposed-more : (epochs open_one : ℕ) (own more : List Vote) → ((e : ℕ) → list_any (is_any_proposal e) more ≡ false)
    → HasProposed epochs open_one own → HasProposed epochs open_one (own ++ more)
HasProposed-more epochs open_one own more none has = record {
  upto = λ e le below. any_stays (is_any_proposal e) own more (has.upto e le below);
  above = λ e above below. any_neither (is_any_proposal e) own more (has.above e above below) (none e);
}
