-- Places that compare alike are one, and what a table notes.
use Rattle.std.proofs.Common.{◌≡◌, ℕ, Bool, true, false, ◌==◌, List, Option, None, Some, cond, refl, sym, ap, subst, ◌∙◌, rules}
use Rattle.std.specs.Option.{option_or}
use Rattle.std.proofs.lemmas.Bool.{and_parts, eqb-true}
use Rattle.std.proofs.lemmas.Cmp.{tied_itself}
use Rattle.std.specs.Ordering.{is_eq}
use Rattle.hb_rules.specs.Slots.{when}
use Rattle.accuse.specs.declared.place.Kind.{Kind}
use Rattle.accuse.specs.declared.place.Place.{Place}
use Rattle.accuse.specs.contracts.place.KindPartialEq.TheImpl.{ghosts as equal_kinds}
use Rattle.accuse.specs.contracts.place.PlacePartialEq.TheImpl.{ghosts as equal}
use Rattle.accuse.specs.contracts.place.PlaceOrd.TheImpl.Laws.{total-law, matches_eq-law}
use Rattle.accuse.specs.Places.{same_place, first_at}

kind_is : (a b : Kind) → equal_kinds.eq a b ≡ true → a ≡ b
kind_is a b e = search rules

pub place_is : (a b : Place) → same_place a b ≡ true → a ≡ b
place_is a b e =
    let law = matches_eq-law a b in
    let same : equal.eq a b ≡ true = law ∙ e in
    let one = and_parts (a.actor == b.actor) _ same in
    let two = and_parts (equal_kinds.eq a.kind b.kind) _ one.1 in
    let three = and_parts (a.epoch == b.epoch) _ two.1 in
    let four = and_parts (a.round == b.round) (a.target == b.target) three.1 in
    λ i. record {
      actor = eqb-true a.actor b.actor one.0 i;
      kind = kind_is a.kind b.kind two.0 i;
      epoch = eqb-true a.epoch b.epoch three.0 i;
      round = eqb-true a.round b.round four.0 i;
      target = eqb-true a.target b.target four.1 i;
    }

pub place_self : (a : Place) → same_place a a ≡ true
place_self a = ap is_eq (tied_itself total-law a)

or_none : (o : Option ℕ) → option_or o None ≡ o
or_none None = refl
or_none (Some p) = refl

pub noted_new : (old new : List (Place × ℕ)) (place : Place) (post : ℕ) → first_at old place ≡ None
    → ((q : Place) → first_at new q ≡ cond (same_place place q) (Some post) (first_at old q))
    → (other : Place) → first_at new other ≡ option_or (first_at old other) (when (same_place place other) post)
noted_new old new place post none updates other = updates other ∙ by (same_place place other) refl
  where
    by : (b : Bool) → same_place place other ≡ b → cond b (Some post) (first_at old other) ≡ option_or (first_at old other) (when b post)
    by true is =
        let here : first_at old other ≡ None = subst (λ (p : Place). first_at old p ≡ None) (place_is place other is) none in
        sym (ap (λ (o : Option ℕ). option_or o (Some post)) here)
    by false is = sym (or_none (first_at old other))

pub noted_old : (entries : List (Place × ℕ)) (place : Place) (post first : ℕ) → first_at entries place ≡ Some first
    → (other : Place) → first_at entries other ≡ option_or (first_at entries other) (when (same_place place other) post)
noted_old entries place post first found other = by (same_place place other) refl
  where
    by : (b : Bool) → same_place place other ≡ b → first_at entries other ≡ option_or (first_at entries other) (when b post)
    by true is =
        let here : first_at entries other ≡ Some first = subst (λ (p : Place). first_at entries p ≡ Some first) (place_is place other is) found in
        here ∙ sym (ap (λ (o : Option ℕ). option_or o (Some post)) here)
    by false is = sym (or_none (first_at entries other))
