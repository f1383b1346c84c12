-- A hearing, and what it makes due.
use Rattle.std.proofs.Common.{◌≡◌, ◌↔◌, ◌==◌, ℕ, suc, Bool, true, length, refl, List, [], ◌∷◌, ◌++◌, None, Some, sym, ap, ◌∙◌, subst, append-nil, arith}
use Rattle.std.proofs.lemmas.Bool.{eqb-true}
use Rattle.hb_base.specs.Numbers.{Numbers}
use Rattle.hb_wire.specs.declared.vote.Vote.{Vote}
use Rattle.hb_rules.specs.Hearing.{Hearing}
use Rattle.hb_rules.specs.Room.{DueView}
use Rattle.hb_rules.specs.Slots.{pass, IsIdle, IsOwed}
use Rattle.hb_rules.specs.Owing.{Place}
use Rattle.hb_rules.proofs.Passing.{IsOwed-nil, IsOwed-unique}
use Rattle.aba_core.specs.State.{AbaView, place_of, IsAba}
use Rattle.aba_core.specs.Standing.{slots_at, Shows, Stands, Hears}
use Rattle.aba_core.specs.Rows.{RestsBelow}
use Rattle.aba_core.specs.Passing.{Notes, Settled}
use Rattle.aba_core.proofs.Names.{idle_resting, all_resting_idle}

-- nothing becomes due
pub Hears-quiet : (old new : AbaView) (h : Hearing) (before after : List Vote) → IsAba old → Notes old new h None → after ≡ before
    → Hears old new h before after
Hears-quiet old new h before after sound notes same = record {
  place = notes.place;
  votes = [];
  due = same ∙ sym (append-nil before);
  owed = λ own heard stands. IsOwed-nil (slots_at (place_of old)) own (heard ++ h ∷ []) (subst (λ (p : Place). IsIdle (slots_at p) own (heard ++ h ∷ [])) notes.place (idle own heard stands));
  stands = λ own heard stands.
      subst (λ (votes : List Vote). Stands new votes (heard ++ h ∷ [])) (sym (append-nil own))
      (record { idle = idle own heard stands; shows = notes.shows own heard stands.shows });
}
  where
    config : new.config ≡ old.config
    config = ap (λ (p : Place). p.config) notes.place

    idle : (own : List Vote) (heard : List Hearing) → Stands old own heard → IsIdle (slots_at (place_of new)) own (heard ++ h ∷ [])
    idle own heard stands =
        all_resting_idle new own (heard ++ h ∷ []) (notes.shows own heard stands.shows)
        (omega (arith, sound.sound.rounds.0, ap (λ (c : Numbers). c.rounds) config))
        (subst (RestsBelow new) (ap (λ (c : Numbers). c.rounds) (sym config)) (notes.resting (idle_resting old own heard stands.shows stands.idle old.config.rounds)))

-- all that is owed becomes due
pub Hears-settled : (old mid new : AbaView) (h : Hearing) (r : ℕ) (before after : DueView) (votes : List Vote) → Notes old mid h (Some r) → Settled r mid new before after
    → before.votes ≡ votes → Hears old new h votes after.votes
Hears-settled old mid new h r before after votes notes settled same = record {
  place = settled.place ∙ notes.place;
  votes = settled.votes;
  due = settled.due ∙ ap (λ (vs : List Vote). vs ++ settled.votes) same;
  owed = λ own heard stands.
      subst (λ (p : Place). IsOwed (slots_at p) own (heard ++ h ∷ []) settled.votes) notes.place
      (settled.owed (notes.resting (idle_resting old own heard stands.shows stands.idle r)) own (heard ++ h ∷ []) (notes.shows own heard stands.shows));
  stands = λ own heard stands.
      settled.stands (notes.resting (idle_resting old own heard stands.shows stands.idle r)) own (heard ++ h ∷ []) (notes.shows own heard stands.shows);
}

-- ---- asked once

-- what is owed is nothing exactly where the slots are idle
idle_if_none : (old new : AbaView) (before after : DueView) (own : List Vote) (heard : List Hearing) → before.votes ≡ [] → Settled 0 old new before after
    → Shows old own heard → (after.votes ≡ []) ↔ IsIdle (slots_at (place_of old)) own heard
idle_if_none old new before after own heard empty settled shows = (
  λ none.
      let votes : settled.votes ≡ [] = sym all ∙ none in
      ap (λ (own : List Vote). pass (slots_at (place_of old)) own heard) (sym (append-nil own))
      ∙ ap (λ (votes : List Vote). pass (slots_at (place_of old)) (own ++ votes) heard) (sym votes)
      ∙ owed.rests,
  λ idle. all ∙ IsOwed-unique (slots_at (place_of old)) own heard settled.votes [] owed (IsOwed-nil (slots_at (place_of old)) own heard idle),
)
  where
    all : after.votes ≡ settled.votes
    all = settled.due ∙ ap (λ (votes : List Vote). votes ++ settled.votes) empty

    owed : IsOwed (slots_at (place_of old)) own heard settled.votes
    owed = settled.owed (λ name known below. absurd (omega arith)) own heard shows

-- so an answer that no vote was made due tells that they are
pub idle_told : (old new : AbaView) (before after : DueView) (votes : List Vote) (answer : Bool) → before.votes ≡ [] → Settled 0 old new before after
    → votes ≡ after.votes → answer ≡ (length votes == 0) → (own : List Vote) (heard : List Hearing) → Shows old own heard
    → (answer ≡ true) ↔ IsIdle (slots_at (place_of old)) own heard
idle_told old new before after votes answer empty settled same told own heard shows =
    let both = idle_if_none old new before after own heard empty settled shows in (
      λ yes. both.0 (sym same ∙ no_votes votes (sym told ∙ yes)),
      λ idle. told ∙ ap (λ (votes : List Vote). length votes == 0) (same ∙ both.1 idle),
    )
  where
    no_votes : (votes : List Vote) → (length votes == 0) ≡ true → votes ≡ []
    no_votes [] h = refl
    no_votes (vote ∷ votes) h = let none = eqb-true (suc (length votes)) 0 h in absurd (omega arith)
