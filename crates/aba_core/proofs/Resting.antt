-- Slots that rest, by the tables and by the lists that these show.
use Rattle.std.proofs.Common.{◌≡◌, ℕ, ◌<◌, Bool, true, false, ◌&&◌, ◌||◌, ◌==◌, inl, inr, List, [], ◌∷◌, None, refl, sym, ap, ◌∙◌, arith}
use Rattle.std.proofs.lemmas.Bool.{or_parts}
use Rattle.hb_base.specs.Limits.{most_nodes}
use Rattle.hb_base.specs.NodeSet.{is_in}
use Rattle.hb_wire.specs.declared.vote.Vote.{Vote}
use Rattle.hb_wire.specs.declared.vote.Vote.TheVariants.{Est}
use Rattle.hb_rules.specs.declared.agreement_slot.AgreementSlot.{AgreementSlot}
use Rattle.hb_rules.specs.declared.agreement_slot.AgreementSlot.TheVariants.{Begin, Support, Accept, ConfirmOne, ConfirmBoth, PickOne, PickBoth, ShowShare, GoOn, Decide}
use Rattle.hb_rules.specs.AgreementRows.{View, view_of, choice_of, limit_of, agreement_slot}
use Rattle.hb_rules.specs.Hearing.{Hearing, heard_by}
use Rattle.hb_rules.specs.Marks.{Mark, delivery, any_est, decision, Claim, bvals, auxes, any_auxes, confs, any_confs, confs_with, makes, support}
use Rattle.hb_rules.specs.Slots.{Slot, when}
use Rattle.hb_rules.specs.Owing.{Place}
use Rattle.hb_rules.proofs.Counts.{count_nodes-same, count_nodes-above}
use Rattle.hb_rules.proofs.Passing.{IsSettledAt, settled_if_cast, settled_if_none, settled_parts}
use Rattle.aba_core.specs.Tables.{count_in}
use Rattle.aba_core.specs.State.{AbaView, place_of, round_in, mark_round, claim_round, mark_at, voters_at, view_at, choice_at, slot_round}
use Rattle.aba_core.specs.Standing.{Shows}
use Rattle.aba_core.specs.Rows.{IsKnown, Rests, RestsBelow}
use Rattle.aba_core.proofs.Alike.{StartAlike, AreAlike, is_next, is_begin, choice_alike, next_choice_alike, next_rests}

-- ---- from one state to another

-- the state changes nothing of the rounds below k that makes a slot owe something there
pub record Spares (k : ℕ) (old new : AbaView) : Type 0 where
  pub place : place_of new ≡ place_of old
  pub alike : AreAlike old.config k (view_at old) (view_at new)
  pub begin : (b : Bool) → 0 < k → Rests old (Begin b) → Rests new (Begin b)
  pub grows : (mark : Mark) → mark_round mark < old.config.rounds → mark_at old mark ≡ true → mark_at new mark ≡ true

rests_by : (old new : AbaView) (name : AgreementSlot) → (mark_at old (limit_of name) ≡ true → mark_at new (limit_of name) ≡ true)
    → (choice_at old name ≡ None → choice_at new name ≡ None) → Rests old name → Rests new name
rests_by old new name fills empties (inl filled) = inl (fills filled)
rests_by old new name fills empties (inr empty) = inr (empties empty)

choice_spared : (k : ℕ) (old new : AbaView) → Spares k old new → (name : AgreementSlot) → is_begin name ≡ false → slot_round name < k
    → slot_round name < old.config.rounds
    → choice_at old name ≡ None → choice_at new name ≡ None
choice_spared k old new spares name later below inside none =
    ap (λ (p : Place). choice_of p.config p.node p.lane p.epoch name (view_at new)) spares.place ∙ by (is_next name) refl
  where
    next : (name : AgreementSlot) → is_next name ≡ true → slot_round name < k → slot_round name < old.config.rounds
        → choice_of old.config old.node old.lane old.epoch name (view_at old) ≡ None
        → choice_of old.config old.node old.lane old.epoch name (view_at new) ≡ None
    next (GoOn r) kind low within h =
        next_rests old.config old.node old.lane old.epoch k (view_at old) (view_at new) spares.alike (λ b. spares.grows (decision b) (omega arith)) r low h
    next (Begin b) kind low within h = absurd (cc (kind))
    next (Support r b) kind low within h = absurd (cc (kind))
    next (Accept r) kind low within h = absurd (cc (kind))
    next (ConfirmOne r b) kind low within h = absurd (cc (kind))
    next (ConfirmBoth r) kind low within h = absurd (cc (kind))
    next (PickOne r b) kind low within h = absurd (cc (kind))
    next (PickBoth r) kind low within h = absurd (cc (kind))
    next (ShowShare r) kind low within h = absurd (cc (kind))
    next (Decide r) kind low within h = absurd (cc (kind))

    by : (b : Bool) → is_next name ≡ b → choice_of old.config old.node old.lane old.epoch name (view_at new) ≡ None
    by true kind = next name kind below inside none
    by false kind =
        sym (choice_alike old.config old.node old.lane old.epoch k (view_at old) (view_at new) spares.alike name kind (λ h. absurd (cc (later, h))) below) ∙ none

rests_spared : (k : ℕ) (old new : AbaView) → Spares k old new → (name : AgreementSlot) → IsKnown old.config name → slot_round name < k → Rests old name → Rests new name
rests_spared k old new spares (Begin b) known below rests = spares.begin b below rests
rests_spared k old new spares name known below rests =
    rests_by old new name (spares.grows (limit_of name) known.limit) (choice_spared k old new spares name refl below known.round) rests

pub spares_resting : (k : ℕ) (old new : AbaView) → Spares k old new → RestsBelow old k → RestsBelow new k
spares_resting k old new spares resting name known below =
    let same : new.config ≡ old.config = ap (λ (p : Place). p.config) spares.place in
    let was : IsKnown old.config name = rw same at known in
    rests_spared k old new spares name was below (resting name was below)

-- the slots of the first estimate rest as before where what they look at is the same
pub begin_rests : (old new : AbaView) → place_of new ≡ place_of old → StartAlike (view_at old) (view_at new)
    → (mark_at old (any_est 0) ≡ true → mark_at new (any_est 0) ≡ true) → (b : Bool) → Rests old (Begin b) → Rests new (Begin b)
unfolding choice_of
begin_rests old new place start grows b rests = rests_by old new (Begin b) grows (by b) rests
  where
    no_vote : (t : Bool) (d : ℕ) (bit : Bool) → when t (Est d 0 bit) ≡ None → t ≡ false
    no_vote true d bit h = absurd (cc (h))
    no_vote false d bit h = refl

    by : (b : Bool) → choice_at old (Begin b) ≡ None → choice_at new (Begin b) ≡ None
    by true none = ap (λ (t : Bool). when t (Est new.epoch 0 true)) (sym start.delivery ∙ no_vote (mark_at old delivery) old.epoch true none)
    by false none = ap (λ (t : Bool). when t (Est new.epoch 0 false)) (sym start.no_more ∙ no_vote old.no_more old.epoch false none)

-- ---- from a state to the lists that it shows

none_heard : (heard : List Hearing) (m : ℕ) (test : Vote → Bool) → heard_by heard m (λ vote. true) ≡ false → heard_by heard m test ≡ false
none_heard [] m test none = refl
none_heard (h ∷ heard) m test none =
    let parts = or_parts ((h.from == m) && true) (heard_by heard m (λ vote. true)) none in
    rw (none_heard heard m test parts.1) (by (h.from == m) parts.0)
  where
    by : (b : Bool) → (b && true) ≡ false → ((b && test h.vote) || false) ≡ false
    by true h = absurd (cc (h))
    by false h = refl

pub count_shown : (a : AbaView) (own : List Vote) (heard : List Hearing) → Shows a own heard → (claim : Claim) → claim_round claim < a.config.rounds
    → count_in (round_in a (claim_round claim)).tables claim ≡ support a.config.n a.epoch claim heard
count_shown a own heard shows claim below =
    count_nodes-same most_nodes (is_in (voters_at a claim)) (λ m. heard_by heard m (makes a.epoch claim)) (shows.said claim below)
    ∙ count_nodes-above a.config.n most_nodes (λ m. heard_by heard m (makes a.epoch claim)) shows.few
    (λ m above. none_heard heard m (makes a.epoch claim) (shows.nodes m above))

pub shown_alike : (a : AbaView) (own : List Vote) (heard : List Hearing) → Shows a own heard
    → AreAlike a.config a.config.rounds (view_at a) (view_of a.config a.node a.lane a.epoch own heard)
shown_alike a own heard shows = record {
  cast = λ mark kind below. shows.cast mark below;
  levels = λ r below. rw (
    count_shown a own heard shows (bvals r false) below,
    count_shown a own heard shows (bvals r true) below,
    count_shown a own heard shows (auxes r false) below,
    count_shown a own heard shows (auxes r true) below,
    count_shown a own heard shows (any_auxes r) below,
    count_shown a own heard shows (confs r false) below,
    count_shown a own heard shows (confs r true) below,
    count_shown a own heard shows (any_confs r) below,
    count_shown a own heard shows (confs_with r false) below,
    count_shown a own heard shows (confs_with r true) below,
  ) refl;
  coin = λ r below. shows.coins r below;
}

-- the tables make the choice that the lists make
pub choice_shown : (a : AbaView) (own : List Vote) (heard : List Hearing) → Shows a own heard → (name : AgreementSlot) → slot_round name < a.config.rounds
    → choice_at a name ≡ choice_of a.config a.node a.lane a.epoch name (view_of a.config a.node a.lane a.epoch own heard)
choice_shown a own heard shows name below = by name below (is_next name) refl
  where
    v : View
    v = view_at a

    w : View
    w = view_of a.config a.node a.lane a.epoch own heard

    alike : AreAlike a.config a.config.rounds v w
    alike = shown_alike a own heard shows

    next : (name : AgreementSlot) → is_next name ≡ true → slot_round name < a.config.rounds
        → choice_of a.config a.node a.lane a.epoch name v ≡ choice_of a.config a.node a.lane a.epoch name w
    next (GoOn r) kind low =
        next_choice_alike a.config a.node a.lane a.epoch a.config.rounds v w alike (λ b. shows.cast (decision b) (omega arith)) r low
    next (Begin b) kind low = absurd (cc (kind))
    next (Support r b) kind low = absurd (cc (kind))
    next (Accept r) kind low = absurd (cc (kind))
    next (ConfirmOne r b) kind low = absurd (cc (kind))
    next (ConfirmBoth r) kind low = absurd (cc (kind))
    next (PickOne r b) kind low = absurd (cc (kind))
    next (PickBoth r) kind low = absurd (cc (kind))
    next (ShowShare r) kind low = absurd (cc (kind))
    next (Decide r) kind low = absurd (cc (kind))

    by : (name : AgreementSlot) → slot_round name < a.config.rounds → (b : Bool) → is_next name ≡ b
        → choice_of a.config a.node a.lane a.epoch name v ≡ choice_of a.config a.node a.lane a.epoch name w
    by name low true kind = next name kind low
    by name low false kind =
        choice_alike a.config a.node a.lane a.epoch a.config.rounds v w alike name kind
        (λ start. record { delivery = shows.cast delivery (omega (arith, low)); no_more = shows.no_more }) low

-- the slot with a name
abbrev pub slot_named : AbaView → AgreementSlot → Slot Vote Hearing
slot_named a name = agreement_slot a.config a.node a.lane a.epoch name

pub filled_shown : (a : AbaView) (own : List Vote) (heard : List Hearing) → Shows a own heard → (name : AgreementSlot) → IsKnown a.config name
    → mark_at a (limit_of name) ≡ (slot_named a name).is_cast own
unfolding agreement_slot
filled_shown a own heard shows name known = shows.cast (limit_of name) known.limit

pub made_shown : (a : AbaView) (own : List Vote) (heard : List Hearing) → Shows a own heard → (name : AgreementSlot) → IsKnown a.config name
    → choice_at a name ≡ (slot_named a name).choice own heard
unfolding agreement_slot
made_shown a own heard shows name known = choice_shown a own heard shows name known.round

pub rests_settled : (a : AbaView) (own : List Vote) (heard : List Hearing) → Shows a own heard → (name : AgreementSlot) → IsKnown a.config name
    → Rests a name → IsSettledAt (slot_named a name) own heard
rests_settled a own heard shows name known (inl filled) =
    settled_if_cast (slot_named a name) own heard (sym (filled_shown a own heard shows name known) ∙ filled)
rests_settled a own heard shows name known (inr empty) =
    settled_if_none (slot_named a name) own heard (sym (made_shown a own heard shows name known) ∙ empty)

pub settled_rests : (a : AbaView) (own : List Vote) (heard : List Hearing) → Shows a own heard → (name : AgreementSlot) → IsKnown a.config name
    → IsSettledAt (slot_named a name) own heard → Rests a name
settled_rests a own heard shows name known settled =
    settled_parts (slot_named a name) own heard settled (Rests a name)
    (λ cast. inl (filled_shown a own heard shows name known ∙ cast))
    (λ none. inr (made_shown a own heard shows name known ∙ none))
