-- An agreement that has taken in all that was heard.
use Rattle.std.proofs.Common.{◌≡◌, ◌↔◌, ◌<◌, Bool, true, false, List, [], ◌∷◌, ◌++◌, Result, Ok, Err, IfOk, nat_lt, refl, sym, ◌∙◌, subst, append-nil}
use Rattle.std.specs.List.{filter}
use Rattle.std.proofs.lemmas.List.Elements.{filter-append}
use Rattle.hb_wire.specs.declared.vote.Vote.{Vote}
use Rattle.hb_rules.specs.Hearing.{Hearing}
use Rattle.hb_rules.specs.Slots.{IsIdle}
use Rattle.hb_rules.specs.Owing.{Place}
use Rattle.aba_core.specs.State.{AbaView, place_of}
use Rattle.aba_core.specs.Standing.{slots_at, Shows}
use Rattle.quiet_check.specs.Inside.{is_inside}
use Rattle.quiet_check.proofs.Outside.{agreement_inside}

-- it shows what was cast, and what was heard of the run's nodes
pub record HasNoted (a : AbaView) (p : Place) (own : List Vote) (heard : List Hearing) : Type 0 where
  pub place : place_of a ≡ p
  pub shows : Shows a own (filter (is_inside p.config.n) heard)

-- a vote of a node of the run was taken in
pub record TakesIn (old new : AbaView) (h : Hearing) : Type 0 where
  pub place : place_of new ≡ place_of old
  pub shows : (own : List Vote) (heard : List Hearing) → Shows old own heard → Shows new own (heard ++ h ∷ [])

pub noted_inside : (old new : AbaView) (p : Place) (own : List Vote) (heard : List Hearing) (h : Hearing) → HasNoted old p own heard
    → nat_lt h.from p.config.n ≡ true → TakesIn old new h → HasNoted new p own (heard ++ h ∷ [])
noted_inside old new p own heard h noted inside takes = record {
  place = takes.place ∙ noted.place;
  shows =
      subst (Shows new own) (sym (filter-append (is_inside p.config.n) heard (h ∷ []) ∙ rw inside refl))
      (takes.shows own (filter (is_inside p.config.n) heard) noted.shows);
}

pub noted_outside : (a : AbaView) (p : Place) (own : List Vote) (heard : List Hearing) (h : Hearing) → HasNoted a p own heard
    → nat_lt h.from p.config.n ≡ false → HasNoted a p own (heard ++ h ∷ [])
noted_outside a p own heard h noted outside = record {
  place = noted.place;
  shows =
      subst (Shows a own)
      (sym (filter-append (is_inside p.config.n) heard (h ∷ []) ∙ rw outside (append-nil (filter (is_inside p.config.n) heard)))) noted.shows;
}

pub noted_told : (a : AbaView) (p : Place) (own : List Vote) (heard : List Hearing) (answer : Bool) → HasNoted a p own heard → p.node < p.config.n
    → ((own : List Vote) (heard : List Hearing) → Shows a own heard → (answer ≡ true) ↔ IsIdle (slots_at (place_of a)) own heard)
    → (answer ≡ true) ↔ IsIdle (slots_at p) own heard
noted_told a p own heard answer noted node exact =
    let few : List Hearing = filter (is_inside p.config.n) heard in
    let told : (answer ≡ true) ↔ IsIdle (slots_at p) own few =
    subst (λ (q : Place). (answer ≡ true) ↔ IsIdle (slots_at q) own few) noted.place (exact own few noted.shows) in
    let both = agreement_inside p.config p.node p.lane p.epoch own heard node in
    (λ yes. both.0 (told.0 yes), λ idle. told.1 (both.1 idle))

-- what follows of each answer follows of the result
pub if_ok : {A E : Type 0} (r : Result A E) (P Q : A → Type 0) → ((x : A) → P x → Q x) → IfOk r P → IfOk r Q
if_ok (Ok x) P Q more h = more x h
if_ok (Err e) P Q more h = tt
