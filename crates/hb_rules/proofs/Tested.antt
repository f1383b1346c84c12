-- Own votes that no test tells apart make the same owed.
use Rattle.std.proofs.Common.{◌≡◌, Bool, ◌||◌, List, length, sym, ap, ◌∙◌}
use Rattle.std.specs.List.{list_any, AllByRecursion}
use Rattle.std.proofs.lemmas.List.Folds.{list_any-append}
use Rattle.hb_wire.specs.declared.vote.Vote.{Vote}
use Rattle.hb_rules.specs.Hearing.{Hearing}
use Rattle.hb_rules.specs.Slots.{Slot, owed}
use Rattle.hb_rules.specs.Same.{AreSame}
use Rattle.hb_rules.specs.Tested.{IsTested}
use Rattle.hb_rules.proofs.Lists.{AllByRecursion-weaker}
use Rattle.hb_rules.proofs.Within.{IsAlike, IsKept, passes-alike}

pub AreSame-kept : IsKept AreSame
AreSame-kept = record {
  more = λ own other more related. record {
    tests = λ test.
        list_any-append test own more
        ∙ ap (λ (b : Bool). b || list_any test more) (related.tests test)
        ∙ sym (list_any-append test other more);
  };
}

pub owed-same : (slots : List (Slot Vote Hearing)) → AllByRecursion IsTested slots → (own other : List Vote) (heard : List Hearing)
    → AreSame own other
    → owed slots own heard ≡ owed slots other heard
owed-same slots tested own other heard same =
    passes-alike AreSame AreSame-kept heard heard slots
    (AllByRecursion-weaker IsTested (IsAlike AreSame heard heard) slots
    (λ slot tests. record { cast = tests.cast; choice = λ own other same. tests.choice own other heard same }) tested)
    (length slots) own other same
