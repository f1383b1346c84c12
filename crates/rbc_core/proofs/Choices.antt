-- What one more hearing does to the choices of the broadcast's slots, and to what they owe.
use Rattle.std.proofs.Common.{◌≡◌, ℕ, Bool, true, false, ◌||◌, ◌==◌, List, [], ◌∷◌, ◌++◌, Contains, Option, None, Some, if◌then◌else◌, refl, sym, ap, ◌∙◌, append-nil}
use Rattle.std.specs.List.{list_any, AllByRecursion}
use Rattle.std.specs.Option.{option_map, option_to_list, option_and_then}
use Rattle.std.proofs.Math.Bool.{or-false}
use Rattle.std.proofs.lemmas.Bool.{eqb-true}
use Rattle.std.proofs.lemmas.List.Folds.{list_any-append}
use Rattle.hb_base.specs.Numbers.{Numbers}
use Rattle.hb_wire.specs.declared.vote.Vote.{Vote}
use Rattle.rs_shards.specs.Completing.{encoded}
use Rattle.hb_rules.specs.Claims.{is_any_ready, is_any_delivery}
use Rattle.hb_rules.specs.Code.{data_count}
use Rattle.hb_rules.specs.Hearing.{Hearing}
use Rattle.hb_rules.specs.Slots.{Slot, owes, pass, each, first_of, IsIdle}
use Rattle.hb_rules.specs.Turns.{IsPlain}
use Rattle.hb_rules.specs.BroadcastRows.{proposal_in, val_of, val_slot, echo_in, echo_slot, named, ready_made, ready_slot, delivery_made, delivery_slot}
use Rattle.hb_rules.specs.Owing.{Place}
use Rattle.hb_rules.proofs.BroadcastParts.{echo_slot-plain, ready_slot-plain, delivery_slot-plain}
use Rattle.hb_rules.proofs.Lists.{AllByRecursion-parts, AllByRecursion-each, AllByRecursion-both}
use Rattle.hb_rules.proofs.Passing.{pass-append, IsSettledAt, settled_if_cast, settled_if_none, settled_parts, pass_settled, settled_idle, settled_more}
use Rattle.rbc_core.specs.Broadcast.{slots_at, names}
use Rattle.rbc_core.specs.Due.{unless}
use Rattle.rbc_core.proofs.Firsts.{first_of-nothing, first_none, made_by, only_new, none_new}
use Rattle.rbc_core.proofs.Hearings.{IsSilent, silent_if_none, silent_of_others, ready_made-silent, delivery_made-silent}

-- ---- the rows

abbrev pub vals_at : Place → List (Slot Vote Hearing)
vals_at p = each p.config.n (λ m. val_slot p.config p.node p.lane p.epoch m ∷ [])

abbrev pub echo_at : Place → Slot Vote Hearing
echo_at p = echo_slot p.config p.node p.lane p.epoch

abbrev pub ready_at : Place → Slot Vote Hearing
ready_at p = ready_slot p.config p.epoch

abbrev pub delivery_at : Place → Slot Vote Hearing
delivery_at p = delivery_slot p.config p.epoch

-- nothing is owed, slot by slot
pub record AreSettled (p : Place) (own : List Vote) (heard : List Hearing) : Type 0 where
  pub vals : AllByRecursion (λ slot. IsSettledAt slot own heard) (vals_at p)
  pub echo : IsSettledAt (echo_at p) own heard
  pub ready : IsSettledAt (ready_at p) own heard
  pub delivery : IsSettledAt (delivery_at p) own heard

pub AreSettled-idle : (p : Place) (own : List Vote) (heard : List Hearing) → IsIdle (slots_at p) own heard → AreSettled p own heard
AreSettled-idle p own heard idle =
    let parts = AllByRecursion-parts (λ slot. IsSettledAt slot own heard) (vals_at p) (echo_at p ∷ ready_at p ∷ delivery_at p ∷ [])
    (settled_idle (slots_at p) own heard idle) in
    record { vals = parts.0; echo = parts.1.0; ready = parts.1.1.0; delivery = parts.1.1.1.0 }

-- the pass, row by row
pub pass_by_rows : (p : Place) (own : List Vote) (heard : List Hearing) (vals echo ready delivery : List Vote)
    → pass (vals_at p) own heard ≡ vals
    → owes (echo_at p) (own ++ vals) heard ≡ echo
    → owes (ready_at p) ((own ++ vals) ++ echo) heard ≡ ready
    → owes (delivery_at p) (((own ++ vals) ++ echo) ++ ready) heard ≡ delivery
    → pass (slots_at p) own heard ≡ vals ++ (echo ++ (ready ++ (delivery ++ [])))
pass_by_rows p own heard vals echo ready delivery is_vals is_echo is_ready is_delivery =
    pass-append (vals_at p) (echo_at p ∷ ready_at p ∷ delivery_at p ∷ []) own heard
    ∙ ap (λ (vs : List Vote). vs ++ pass (echo_at p ∷ ready_at p ∷ delivery_at p ∷ []) (own ++ vs) heard) is_vals
    ∙ ap (λ (vs : List Vote). vals ++ (vs ++ pass (ready_at p ∷ delivery_at p ∷ []) ((own ++ vals) ++ vs) heard)) is_echo
    ∙ ap (λ (vs : List Vote). vals ++ (echo ++ (vs ++ pass (delivery_at p ∷ []) (((own ++ vals) ++ echo) ++ vs) heard))) is_ready
    ∙ ap (λ (vs : List Vote). vals ++ (echo ++ (ready ++ (vs ++ [])))) is_delivery

-- ---- slots that a hearing leaves

settled_same : (slot : Slot Vote Hearing) (own : List Vote) (heard now : List Hearing) → slot.choice own now ≡ slot.choice own heard
    → IsSettledAt slot own heard → IsSettledAt slot own now
settled_same slot own heard now same settled =
    settled_parts slot own heard settled (IsSettledAt slot own now)
    (λ cast. settled_if_cast slot own now cast) (λ none. settled_if_none slot own now (same ∙ none))

-- a settled slot whose choice the hearing leaves makes nothing owed, whatever was cast since
pub quiet_slot : (slot : Slot Vote Hearing) → IsPlain slot → (own more : List Vote) (heard : List Hearing) (h : Hearing) → IsSettledAt slot own heard
    → slot.choice own (heard ++ h ∷ []) ≡ slot.choice own heard → IsSettledAt slot (own ++ more) (heard ++ h ∷ [])
quiet_slot slot plain own more heard h settled same =
    settled_more slot plain own more (heard ++ h ∷ []) (settled_same slot own heard (heard ++ h ∷ []) same settled)

-- a slot that is empty and settled has no choice
pub no_choice : (slot : Slot Vote Hearing) (own : List Vote) (heard : List Hearing) → IsSettledAt slot own heard → slot.is_cast own ≡ false
    → slot.choice own heard ≡ None
no_choice slot own heard settled empty =
    settled_parts slot own heard settled (slot.choice own heard ≡ None) (λ cast. absurd (cc (sym empty ∙ cast))) (λ none. none)

val_choice : (c : Numbers) (i j e m : ℕ) (own : List Vote) (heard : List Hearing) (h : Hearing) → (i ≡ j → proposal_in i e h ≡ None)
    → (val_slot c i j e m).choice own (heard ++ h ∷ []) ≡ (val_slot c i j e m).choice own heard
unfolding val_slot
val_choice c i j e m own heard h none = by (i == j) refl
  where
    by : (b : Bool) → (i == j) ≡ b
        → (if b then option_map (λ value. val_of e m (encoded c.n (data_count c) value)) (first_of (proposal_in i e) (heard ++ h ∷ [])) else None)
        ≡ (if b then option_map (λ value. val_of e m (encoded c.n (data_count c) value)) (first_of (proposal_in i e) heard) else None)
    by true same =
        ap (option_map (λ value. val_of e m (encoded c.n (data_count c) value))) (first_of-nothing (proposal_in i e) heard h (none (eqb-true i j same)))
    by false same = refl

record KeepsChoice (own : List Vote) (heard now : List Hearing) (slot : Slot Vote Hearing) : Type 0 where
  same : slot.choice own now ≡ slot.choice own heard

-- no Val is owed after a hearing that is no proposal
pub quiet_vals : (p : Place) (own : List Vote) (heard : List Hearing) (h : Hearing) → AreSettled p own heard
    → (p.node ≡ p.lane → proposal_in p.node p.epoch h ≡ None)
    → pass (vals_at p) own (heard ++ h ∷ []) ≡ []
quiet_vals p own heard h settled none =
    let now : List Hearing = heard ++ h ∷ [] in
    pass_settled (vals_at p) own now
    (AllByRecursion-both (λ slot. IsSettledAt slot own heard) (KeepsChoice own heard now) (λ slot. IsSettledAt slot own now) (vals_at p)
    (λ slot settled keeps. settled_same slot own heard now keeps.same settled)
    settled.vals
    (AllByRecursion-each (KeepsChoice own heard now) p.config.n (λ m. val_slot p.config p.node p.lane p.epoch m ∷ [])
    (λ m below. (record { same = val_choice p.config p.node p.lane p.epoch m own heard h none }, tt))))

-- no Echo is owed after a hearing that makes none
pub quiet_echo : (p : Place) (own more : List Vote) (heard : List Hearing) (h : Hearing) → AreSettled p own heard
    → echo_in p.config.n p.epoch p.node p.lane h ≡ None → owes (echo_at p) (own ++ more) (heard ++ h ∷ []) ≡ []
unfolding echo_slot
quiet_echo p own more heard h settled none =
    (quiet_slot (echo_at p) (echo_slot-plain p.config p.node p.lane p.epoch) own more heard h settled.echo
    (first_of-nothing (echo_in p.config.n p.epoch p.node p.lane) heard h none)).none

-- A slot whose choice is the first vote that a root makes that was named: what a root makes, a hearing leaves that is
-- silent of it.
pub record IsOfRoots (p : Place) (made : List Hearing → List ℕ → Option Vote) (slot : Slot Vote Hearing) : Type 0 where
  pub plain : IsPlain slot
  pub choice : (own : List Vote) (heard : List Hearing) → slot.choice own heard ≡ first_of (made_by (named p.config.n p.epoch) (made heard)) heard
  pub silent : (root : List ℕ) (heard : List Hearing) (h : Hearing) → IsSilent p.config.n p.epoch root h → made (heard ++ h ∷ []) root ≡ made heard root

pub ready_at-roots : (p : Place) → IsOfRoots p (ready_made p.config p.epoch) (ready_at p)
unfolding ready_slot
ready_at-roots p = record {
  plain = ready_slot-plain p.config p.epoch;
  choice = λ own heard. refl;
  silent = λ root heard h silent. ready_made-silent p.config p.epoch root heard h silent;
}

pub delivery_at-roots : (p : Place) → IsOfRoots p (delivery_made p.config p.epoch) (delivery_at p)
unfolding delivery_slot
delivery_at-roots p = record {
  plain = delivery_slot-plain p.config p.epoch;
  choice = λ own heard. refl;
  silent = λ root heard h silent. delivery_made-silent p.config p.epoch root heard h silent;
}

-- it makes nothing owed after a hearing that names no root
quiet_root : (p : Place) (made : List Hearing → List ℕ → Option Vote) (slot : Slot Vote Hearing) → IsOfRoots p made slot
    → (own more : List Vote) (heard : List Hearing) (h : Hearing) → IsSettledAt slot own heard → named p.config.n p.epoch h ≡ None
    → owes slot (own ++ more) (heard ++ h ∷ []) ≡ []
quiet_root p made slot of own more heard h settled none =
    (quiet_slot slot of.plain own more heard h settled
    (of.choice own (heard ++ h ∷ [])
    ∙ none_new (named p.config.n p.epoch) (made heard) (made (heard ++ h ∷ [])) heard h none
    (λ root. of.silent root heard h (silent_if_none p.config.n p.epoch h none root))
    ∙ sym (of.choice own heard))).none

pub quiet_ready : (p : Place) (own more : List Vote) (heard : List Hearing) (h : Hearing) → AreSettled p own heard
    → named p.config.n p.epoch h ≡ None → owes (ready_at p) (own ++ more) (heard ++ h ∷ []) ≡ []
quiet_ready p own more heard h settled none =
    quiet_root p (ready_made p.config p.epoch) (ready_at p) (ready_at-roots p) own more heard h settled.ready none

pub quiet_delivery : (p : Place) (own more : List Vote) (heard : List Hearing) (h : Hearing) → AreSettled p own heard
    → named p.config.n p.epoch h ≡ None → owes (delivery_at p) (own ++ more) (heard ++ h ∷ []) ≡ []
quiet_delivery p own more heard h settled none =
    quiet_root p (delivery_made p.config p.epoch) (delivery_at p) (delivery_at-roots p) own more heard h settled.delivery none

-- ---- slots that a hearing fills

-- what a slot owes that is empty only where its choice is this
pub owes_vote : (slot : Slot Vote Hearing) (own : List Vote) (heard : List Hearing) (cast : Bool) (vote : Option Vote) → slot.is_cast own ≡ cast
    → (cast ≡ false → slot.choice own heard ≡ vote) → owes slot own heard ≡ option_to_list (unless cast vote)
owes_vote slot own heard true vote is choice = rw is refl
owes_vote slot own heard false vote is choice = rw (is, choice refl) refl

-- a hearing that names a root makes owed what the root makes then
root_owes : (p : Place) (made : List Hearing → List ℕ → Option Vote) (slot : Slot Vote Hearing) → IsOfRoots p made slot
    → (own : List Vote) (heard : List Hearing) (h : Hearing) (root : List ℕ) (cast : Bool) → IsSettledAt slot own heard → slot.is_cast own ≡ cast
    → named p.config.n p.epoch h ≡ Some root
    → owes slot own (heard ++ h ∷ []) ≡ option_to_list (unless cast (made (heard ++ h ∷ []) root))
root_owes p made slot of own heard h root cast settled is names =
    let now : List Hearing = heard ++ h ∷ [] in
    owes_vote slot own now cast (made now root) is
    (λ empty.
    of.choice own now
    ∙ only_new (named p.config.n p.epoch) (made heard) (made now) heard h root names
    (λ w apart. of.silent w heard h (silent_of_others p.config.n p.epoch h root names w apart))
    (sym (of.choice own heard) ∙ no_choice slot own heard settled (is ∙ empty)))

-- what a hearing that names a root makes owed: the Ready and the delivery that the root makes then, unless they are cast
pub named_owed : (p : Place) (own : List Vote) (heard : List Hearing) (h : Hearing) (root : List ℕ) (ready delivery : Option Vote)
    → AreSettled p own heard → (p.node ≡ p.lane → proposal_in p.node p.epoch h ≡ None) → echo_in p.config.n p.epoch p.node p.lane h ≡ None
    → named p.config.n p.epoch h ≡ Some root
    → unless (list_any (is_any_ready p.epoch) own) (ready_made p.config p.epoch (heard ++ h ∷ []) root) ≡ ready
    → unless (list_any (is_any_delivery p.epoch) own) (delivery_made p.config p.epoch (heard ++ h ∷ []) root) ≡ delivery
    → list_any (is_any_delivery p.epoch) (option_to_list ready) ≡ false
    → pass (slots_at p) own (heard ++ h ∷ []) ≡ option_to_list ready ++ option_to_list delivery
unfolding ready_slot delivery_slot
named_owed p own heard h root ready delivery settled no_proposal no_echo names is_ready is_delivery none =
    let now : List Hearing = heard ++ h ∷ [] in
    let first : List Vote = option_to_list ready in
    let flag : list_any (is_any_delivery p.epoch) (own ++ first) ≡ list_any (is_any_delivery p.epoch) own =
    list_any-append (is_any_delivery p.epoch) own first
    ∙ ap (λ (b : Bool). list_any (is_any_delivery p.epoch) own || b) none ∙ or-false (list_any (is_any_delivery p.epoch) own) in
    pass_by_rows p own now [] [] first (option_to_list delivery)
    (quiet_vals p own heard h settled no_proposal)
    (quiet_echo p own [] heard h settled no_echo)
    (rw (append-nil, append-nil)
    (root_owes p (ready_made p.config p.epoch) (ready_at p) (ready_at-roots p) own heard h root (list_any (is_any_ready p.epoch) own) settled.ready refl names
    ∙ ap (λ (o : Option Vote). option_to_list o) is_ready))
    (rw (append-nil, append-nil)
    (root_owes p (delivery_made p.config p.epoch) (delivery_at p) (delivery_at-roots p) (own ++ first) heard h root (list_any (is_any_delivery p.epoch) own)
    (settled_more (delivery_at p) (delivery_slot-plain p.config p.epoch) own first heard settled.delivery) flag names
    ∙ ap (λ (o : Option Vote). option_to_list o) is_delivery))
    ∙ ap (λ (votes : List Vote). first ++ votes) (append-nil (option_to_list delivery))

-- a hearing that no slot heeds
pub record IsUnheeded (p : Place) (h : Hearing) : Type 0 where
  pub proposal : p.node ≡ p.lane → proposal_in p.node p.epoch h ≡ None
  pub echo : echo_in p.config.n p.epoch p.node p.lane h ≡ None
  pub named : named p.config.n p.epoch h ≡ None

pub nothing_owed : (p : Place) (own : List Vote) (heard : List Hearing) (h : Hearing) → AreSettled p own heard → IsUnheeded p h
    → pass (slots_at p) own (heard ++ h ∷ []) ≡ []
nothing_owed p own heard h settled unheeded =
    pass_by_rows p own (heard ++ h ∷ []) [] [] [] []
    (quiet_vals p own heard h settled unheeded.proposal)
    (quiet_echo p own [] heard h settled unheeded.echo)
    (rw append-nil (quiet_ready p own [] heard h settled unheeded.named))
    (rw (append-nil, append-nil) (quiet_delivery p own [] heard h settled unheeded.named))

-- where nothing is owed, no root that was named makes anything that is not cast
root_settled : (p : Place) (made : List Hearing → List ℕ → Option Vote) (slot : Slot Vote Hearing) → IsOfRoots p made slot
    → (own : List Vote) (heard : List Hearing) (g : Hearing) (root : List ℕ) (cast : Bool) → IsSettledAt slot own heard → slot.is_cast own ≡ cast
    → Contains heard g → named p.config.n p.epoch g ≡ Some root → unless cast (made heard root) ≡ None
root_settled p made slot of own heard g root true settled is stands names = refl
root_settled p made slot of own heard g root false settled is stands names =
    ap (λ (o : Option (List ℕ)). option_and_then (made heard) o) (sym names)
    ∙ first_none (made_by (named p.config.n p.epoch) (made heard)) heard (sym (of.choice own heard) ∙ no_choice slot own heard settled is) g stands

pub ready_settled : (p : Place) (own : List Vote) (heard : List Hearing) (g : Hearing) (root : List ℕ) → AreSettled p own heard
    → Contains heard g → named p.config.n p.epoch g ≡ Some root
    → unless (list_any (is_any_ready p.epoch) own) (ready_made p.config p.epoch heard root) ≡ None
unfolding ready_slot
ready_settled p own heard g root settled stands names =
    root_settled p (ready_made p.config p.epoch) (ready_at p) (ready_at-roots p) own heard g root (list_any (is_any_ready p.epoch) own)
    settled.ready refl stands names

pub delivery_settled : (p : Place) (own : List Vote) (heard : List Hearing) (g : Hearing) (root : List ℕ) → AreSettled p own heard
    → Contains heard g → named p.config.n p.epoch g ≡ Some root
    → unless (list_any (is_any_delivery p.epoch) own) (delivery_made p.config p.epoch heard root) ≡ None
unfolding delivery_slot
delivery_settled p own heard g root settled stands names =
    root_settled p (delivery_made p.config p.epoch) (delivery_at p) (delivery_at-roots p) own heard g root (list_any (is_any_delivery p.epoch) own)
    settled.delivery refl stands names
