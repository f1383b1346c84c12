-- What a desk's state of all epochs stands for, as its core has it.
use Rattle.std.proofs.Common.{◌≡◌, ℕ, List, [], ◌∷◌, ◌++◌, Some, Result, Ok, Err, OnOk, refl, ap, subst, ◌∙◌}
use Rattle.hb_base.specs.Numbers.{Numbers}
use Rattle.hb_wire.specs.declared.vote.Vote.{Vote}
use Rattle.hb_rules.specs.Hearing.{Hearing}
use Rattle.hb_rules.specs.Owing.{desk_slots}
use Rattle.hb_rules.specs.Slots.{Slot, IsOwed, owed}
use Rattle.epoch_core.specs.Epochs.{EpochsView, Stands, Starts, Hears, has_started, first_votes}
use Rattle.desk_core.specs.Desk.{DeskView, StandsFor, desk_terms}
use Rattle.desk_core.proofs.Owing.{owed_is}

-- a fact about a value that is there gives another
pub on_ok : {A E : Type 0} (r : Result A E) (P Q : Type 0) → (P → Q) → OnOk r P → OnOk r Q
on_ok (Ok value) P Q then fact = then fact
on_ok (Err fault) P Q then fact = tt

-- one list is owed
abbrev pub OwedOnce : Type 0
OwedOnce = (slots : List (Slot Vote Hearing)) (own : List Vote) (heard : List Hearing) (votes others : List Vote)
    → IsOwed slots own heard votes → IsOwed slots own heard others → votes ≡ others

-- what the slots of a desk owe
abbrev pub OwedByDesk : Type 0
OwedByDesk = (c : Numbers) (submitted : List (List ℕ)) (own : List Vote) (heard : List Hearing)
    → IsOwed (desk_slots c submitted) own heard (owed (desk_slots c submitted) own heard)

-- the first votes are what the desk owes of itself
first_owed : (d : DeskView) (old new : EpochsView) (own before after : List Vote) → OwedOnce → OwedByDesk
    → old.config ≡ d.config → Stands old d.submitted own [] → Starts old new before after
    → first_votes old ≡ (desk_terms d).owed own []
first_owed d old new own before after once one same stands starts =
    owed_is d.config d.submitted d.node own [] (first_votes old) once one
    (subst (λ (c : Numbers). IsOwed (desk_slots c d.submitted) own [] (first_votes old)) same (starts.owed d.submitted own stands))

pub starts_owed : (d : DeskView) (old new : EpochsView) (own before after : List Vote) → OwedOnce → OwedByDesk
    → old.config ≡ d.config → Stands old d.submitted own [] → Starts old new before after
    → after ≡ before ++ (desk_terms d).owed own []
starts_owed d old new own before after once one same stands starts =
    starts.due ∙ ap (λ (votes : List Vote). before ++ votes) (first_owed d old new own before after once one same stands starts)

pub starts_stands : (d : DeskView) (old new : EpochsView) (own before after : List Vote) → OwedOnce → OwedByDesk
    → old.config ≡ d.config → Stands old d.submitted own [] → Starts old new before after
    → StandsFor (record d { epochs = Some new }) (own ++ (desk_terms d).owed own []) []
starts_stands d old new own before after once one same stands starts = record {
  epochs = new;
  is = refl;
  config = ap (λ (e : EpochsView). e.config) starts.state ∙ same;
  started = ap (λ (e : EpochsView). e.first) starts.state;
  stands =
      subst (λ (votes : List Vote). Stands new d.submitted (own ++ votes) [])
      (first_owed d old new own before after once one same stands starts) (starts.stands d.submitted own [] stands);
}

-- the votes that a hearing makes due are what the desk owes then
more_owed : (d : DeskView) (old new : EpochsView) (own : List Vote) (heard : List Hearing) (h : Hearing) (before after : List Vote)
    → OwedOnce → OwedByDesk → old.config ≡ d.config → Stands old d.submitted own heard → (hears : Hears old new h before after)
    → hears.votes ≡ (desk_terms d).owed own (heard ++ h ∷ [])
more_owed d old new own heard h before after once one same stands hears =
    owed_is d.config d.submitted d.node own (heard ++ h ∷ []) hears.votes once one
    (subst (λ (c : Numbers). IsOwed (desk_slots c d.submitted) own (heard ++ h ∷ []) hears.votes) same (hears.owed d.submitted own heard stands))

one_state : (d : DeskView) (old : EpochsView) (own : List Vote) (heard : List Hearing) → d.epochs ≡ Some old → (stands : StandsFor d own heard)
    → stands.epochs ≡ old
one_state d old own heard is stands = cc (stands.is, is)

old_config : (d : DeskView) (old : EpochsView) (own : List Vote) (heard : List Hearing) → d.epochs ≡ Some old → StandsFor d own heard
    → old.config ≡ d.config
old_config d old own heard is stands =
    subst (λ (e : EpochsView). e.config ≡ d.config) (one_state d old own heard is stands) stands.config

old_stands : (d : DeskView) (old : EpochsView) (own : List Vote) (heard : List Hearing) → d.epochs ≡ Some old → StandsFor d own heard
    → Stands old d.submitted own heard
old_stands d old own heard is stands =
    subst (λ (e : EpochsView). Stands e d.submitted own heard) (one_state d old own heard is stands) stands.stands

-- a state that stands for something is there, and its first proposal is cast
pub has_state : (d : DeskView) (old : EpochsView) (own : List Vote) (heard : List Hearing) → d.epochs ≡ Some old → StandsFor d own heard
    → has_started old
has_state d old own heard is stands = subst has_started (one_state d old own heard is stands) stands.started

pub hears_owed : (d : DeskView) (old new : EpochsView) (h : Hearing) (before after : List Vote) → OwedOnce → OwedByDesk
    → d.epochs ≡ Some old → Hears old new h before after
    → (own : List Vote) (heard : List Hearing) → StandsFor d own heard → after ≡ before ++ (desk_terms d).owed own (heard ++ h ∷ [])
hears_owed d old new h before after once one is hears own heard stands =
    hears.due
    ∙ ap (λ (votes : List Vote). before ++ votes)
    (more_owed d old new own heard h before after once one (old_config d old own heard is stands) (old_stands d old own heard is stands) hears)

pub hears_stands : (d : DeskView) (old new : EpochsView) (h : Hearing) (before after : List Vote) → OwedOnce → OwedByDesk
    → d.epochs ≡ Some old → Hears old new h before after
    → (own : List Vote) (heard : List Hearing) → StandsFor d own heard
    → StandsFor (record d { epochs = Some new }) (own ++ (desk_terms d).owed own (heard ++ h ∷ [])) (heard ++ h ∷ [])
hears_stands d old new h before after once one is hears own heard stands =
    let same : old.config ≡ d.config = old_config d old own heard is stands in
    let stood : Stands old d.submitted own heard = old_stands d old own heard is stands in
    record {
      epochs = new;
      is = refl;
      config = hears.config ∙ same;
      started = hears.started;
      stands =
          subst (λ (votes : List Vote). Stands new d.submitted (own ++ votes) (heard ++ h ∷ []))
          (more_owed d old new own heard h before after once one same stood hears) (hears.stands d.submitted own heard stood);
    }
