-- Slots that look at a part of what was cast and heard: where that part is the same, the same is owed.
use Rattle.std.proofs.Common.{◌≡◌, ℕ, zero, suc, Bool, true, List, [], ◌∷◌, ◌++◌, Option, if◌then◌else◌, refl, sym, ap, ap₂, ◌∙◌}
use Rattle.std.specs.List.{list_all, filter, AllByRecursion}
use Rattle.std.specs.Option.{option_to_list}
use Rattle.std.proofs.lemmas.Bool.{and_from}
use Rattle.std.proofs.lemmas.List.Elements.{filter-append}
use Rattle.std.proofs.lemmas.List.Folds.{list_all-append}
use Rattle.hb_rules.specs.Slots.{Slot, owes, pass, passes, IsOwed, owed, IsPart}
use Rattle.hb_rules.proofs.Lists.{filter_within, AllByRecursion-weaker}
use Rattle.hb_rules.proofs.Passing.{owes_cases}

-- ---- slots that answer alike for own votes that are alike

-- a slot that answers alike by what was heard and by what is heard now, for own votes between which R holds
pub record IsAlike {V H : Type 0} (R : List V → List V → Type 0) (heard now : List H) (slot : Slot V H) : Type 0 where
  pub cast : (own other : List V) → R own other → slot.is_cast own ≡ slot.is_cast other
  pub choice : (own other : List V) → R own other → slot.choice own heard ≡ slot.choice other now

-- a relation of own votes that more votes do not end
pub record IsKept {V : Type 0} (R : List V → List V → Type 0) : Type 0 where
  pub more : (own other more : List V) → R own other → R (own ++ more) (other ++ more)

owes-alike : {V H : Type 0} (R : List V → List V → Type 0) (heard now : List H) (slot : Slot V H) → IsAlike R heard now slot
    → (own other : List V) → R own other → owes slot own heard ≡ owes slot other now
owes-alike {V} R heard now slot alike own other related =
    ap₂ (λ (b : Bool) (o : Option V). if b then [] else option_to_list o) (alike.cast own other related) (alike.choice own other related)

pub pass-alike : {V H : Type 0} (R : List V → List V → Type 0) → IsKept R → (heard now : List H) (slots : List (Slot V H))
    → AllByRecursion (IsAlike R heard now) slots
    → (own other : List V) → R own other → pass slots own heard ≡ pass slots other now
pass-alike R kept heard now [] alike own other related = refl
pass-alike {V} R kept heard now (slot ∷ slots) alike own other related =
    let here : List V = owes slot other now in
    ap (λ (votes : List V). votes ++ pass slots (own ++ votes) heard) (owes-alike R heard now slot alike.0 own other related)
    ∙ ap (λ (votes : List V). here ++ votes)
    (pass-alike R kept heard now slots alike.1 (own ++ here) (other ++ here) (kept.more own other here related))

pub passes-alike : {V H : Type 0} (R : List V → List V → Type 0) → IsKept R → (heard now : List H) (slots : List (Slot V H))
    → AllByRecursion (IsAlike R heard now) slots
    → (k : ℕ) (own other : List V) → R own other → passes k slots own heard ≡ passes k slots other now
passes-alike R kept heard now slots alike zero own other related = refl
passes-alike {V} R kept heard now slots alike (suc k) own other related =
    let here : List V = pass slots other now in
    ap (λ (votes : List V). votes ++ passes k slots (own ++ votes) heard) (pass-alike R kept heard now slots alike own other related)
    ∙ ap (λ (votes : List V). here ++ votes)
    (passes-alike R kept heard now slots alike k (own ++ here) (other ++ here) (kept.more own other here related))

pub IsOwed-alike : {V H : Type 0} (R : List V → List V → Type 0) → IsKept R → (heard now : List H) (slots : List (Slot V H))
    → AllByRecursion (IsAlike R heard now) slots
    → (own other votes : List V) → R own other → IsOwed slots own heard votes → IsOwed slots other now votes
IsOwed-alike R kept heard now slots alike own other votes related owed = record {
  count = owed.count;
  gives = sym (passes-alike R kept heard now slots alike owed.count own other related) ∙ owed.gives;
  rests = sym (pass-alike R kept heard now slots alike (own ++ votes) (other ++ votes) (kept.more own other votes related)) ∙ owed.rests;
}

-- ---- parts

-- a part of a part, and of what is wider
pub IsPart-wider : {V H : Type 0} (reads wide : V → Bool) (hears loud : H → Bool) (makes more : V → Bool) (slot : Slot V H)
    → ((v : V) → reads v ≡ true → wide v ≡ true) → ((h : H) → hears h ≡ true → loud h ≡ true) → ((v : V) → makes v ≡ true → more v ≡ true)
    → IsPart reads hears makes slot → IsPart wide loud more slot
IsPart-wider reads wide hears loud makes more slot read heard_too made part = record {
  cast = λ own. part.cast own ∙ sym (part.cast (filter wide own) ∙ ap slot.is_cast (filter_within reads wide read own));
  choice = λ own heard.
      part.choice own heard
      ∙ sym (part.choice (filter wide own) (filter loud heard)
      ∙ ap₂ slot.choice (filter_within reads wide read own) (filter_within hears loud heard_too heard));
  made = λ own heard v some. made v (part.made own heard v some);
}

-- own votes of which the same pass the test
pub record HaveSame {V : Type 0} (reads : V → Bool) (own other : List V) : Type 0 where
  pub same : filter reads own ≡ filter reads other

pub HaveSame-kept : {V : Type 0} (reads : V → Bool) → IsKept (HaveSame reads)
HaveSame-kept {V} reads = record {
  more = λ own other more related. record {
    same =
        filter-append reads own more
        ∙ ap (λ (votes : List V). votes ++ filter reads more) related.same
        ∙ sym (filter-append reads other more);
  };
}

part_alike : {V H : Type 0} (reads : V → Bool) (hears : H → Bool) (makes : V → Bool) (heard now : List H) → filter hears heard ≡ filter hears now
    → (slot : Slot V H) → IsPart reads hears makes slot → IsAlike (HaveSame reads) heard now slot
part_alike reads hears makes heard now same slot part = record {
  cast = λ own other related. part.cast own ∙ ap slot.is_cast related.same ∙ sym (part.cast other);
  choice = λ own other related. part.choice own heard ∙ ap₂ slot.choice related.same same ∙ sym (part.choice other now);
}

parts_alike : {V H : Type 0} (reads : V → Bool) (hears : H → Bool) (makes : V → Bool) (heard now : List H) → filter hears heard ≡ filter hears now
    → (slots : List (Slot V H)) → AllByRecursion (IsPart reads hears makes) slots → AllByRecursion (IsAlike (HaveSame reads) heard now) slots
parts_alike reads hears makes heard now same slots parts =
    AllByRecursion-weaker (IsPart reads hears makes) (IsAlike (HaveSame reads) heard now) slots (part_alike reads hears makes heard now same) parts

pub pass-same : {V H : Type 0} (reads : V → Bool) (hears : H → Bool) (makes : V → Bool) (slots : List (Slot V H))
    → AllByRecursion (IsPart reads hears makes) slots
    → (own other : List V) (heard now : List H) → filter reads own ≡ filter reads other → filter hears heard ≡ filter hears now
    → pass slots own heard ≡ pass slots other now
pass-same reads hears makes slots parts own other heard now cast hearings =
    pass-alike (HaveSame reads) (HaveSame-kept reads) heard now slots
    (parts_alike reads hears makes heard now hearings slots parts) own other (record { same = cast })

pub IsOwed-same : {V H : Type 0} (reads : V → Bool) (hears : H → Bool) (makes : V → Bool) (slots : List (Slot V H))
    → AllByRecursion (IsPart reads hears makes) slots
    → (own other : List V) (heard now : List H) (votes : List V) → filter reads own ≡ filter reads other → filter hears heard ≡ filter hears now
    → IsOwed slots own heard votes → IsOwed slots other now votes
IsOwed-same reads hears makes slots parts own other heard now votes cast hearings owed =
    IsOwed-alike (HaveSame reads) (HaveSame-kept reads) heard now slots
    (parts_alike reads hears makes heard now hearings slots parts) own other votes (record { same = cast }) owed

-- ---- what is owed is of the part

pub pass-made : {V H : Type 0} (reads : V → Bool) (hears : H → Bool) (makes : V → Bool) (slots : List (Slot V H))
    → AllByRecursion (IsPart reads hears makes) slots
    → (own : List V) (heard : List H) → list_all makes (pass slots own heard) ≡ true
pass-made reads hears makes [] parts own heard = refl
pass-made {V} reads hears makes (slot ∷ slots) parts own heard =
    let here : List V = owes slot own heard in
    let one : list_all makes here ≡ true =
    owes_cases slot own heard (λ (votes : List V). list_all makes votes ≡ true) (λ cast. refl) (λ empty none. refl)
    (λ vote empty some. and_from (makes vote) true (parts.0.made own heard vote some) refl) in
    list_all-append makes here (pass slots (own ++ here) heard)
    ∙ and_from (list_all makes here) (list_all makes (pass slots (own ++ here) heard)) one (pass-made reads hears makes slots parts.1 (own ++ here) heard)

pub passes-made : {V H : Type 0} (reads : V → Bool) (hears : H → Bool) (makes : V → Bool) (slots : List (Slot V H))
    → AllByRecursion (IsPart reads hears makes) slots
    → (k : ℕ) (own : List V) (heard : List H) → list_all makes (passes k slots own heard) ≡ true
passes-made reads hears makes slots parts zero own heard = refl
passes-made {V} reads hears makes slots parts (suc k) own heard =
    let here : List V = pass slots own heard in
    list_all-append makes here (passes k slots (own ++ here) heard)
    ∙ and_from (list_all makes here) (list_all makes (passes k slots (own ++ here) heard))
    (pass-made reads hears makes slots parts own heard) (passes-made reads hears makes slots parts k (own ++ here) heard)

pub IsOwed-made : {V H : Type 0} (reads : V → Bool) (hears : H → Bool) (makes : V → Bool) (slots : List (Slot V H))
    → AllByRecursion (IsPart reads hears makes) slots
    → (own : List V) (heard : List H) (votes : List V) → IsOwed slots own heard votes → list_all makes votes ≡ true
IsOwed-made reads hears makes slots parts own heard votes owed =
    ap (list_all makes) (sym owed.gives) ∙ passes-made reads hears makes slots parts owed.count own heard
