-- The ends of running nodes: the first end of each of their actors has the fate Running.
use Rattle.std.proofs.Common.{◌≡◌, ℕ, ◌+◌, ◌≤◌, ◌&&◌, ◌||◌, ◌==◌, not, nat_lt, Bool, true, false, inl, inr, List, [], ◌∷◌, Contains, Some, refl, ap}
use Rattle.std.specs.List.{find, list_any, list_all, range_with_len}
use Rattle.std.proofs.lemmas.Bool.{both_ways, and_parts, and_from, eqb-true, eq-eqb, or_cases, not_from_true}
use Rattle.std.proofs.lemmas.List.Elements.{All-contains}
use Rattle.std.proofs.lemmas.List.Sums.{AllPass-from_list_all}
use Rattle.hb_base.specs.NodeSet.{is_in}
use Rattle.hb_rules.specs.declared.report.End.{End}
use Rattle.hb_rules.specs.declared.report.Report.{Report}
use Rattle.hb_rules.specs.Report.{is_running_fate, works, none_ended, all_work, is_running}
use Rattle.hb_rules.proofs.Lists.{list_any-from, Contains-first, Contains-later}
use Rattle.hb_rules.proofs.Reports.{running_of, IsAtWork, works_end, running_works}
use Rattle.lane_progress.specs.Lanes.{is_end_of, received_by, got_by}

-- where some element passes a test, a first one does
record IsFirst {A : Type 0} (test : A → Bool) (xs : List A) : Type 0 where
  element : A
  found : find test xs ≡ Some element
  stands : Contains xs element
  passes : test element ≡ true

find_first : {A : Type 0} (test : A → Bool) (xs : List A) → list_any test xs ≡ true → IsFirst test xs
find_first test [] some = absurd (cc (some))
find_first {A} test (x ∷ xs) some = by (test x) refl some (find_first test xs)
  where
    by : (b : Bool) → test x ≡ b → (b || list_any test xs) ≡ true → (list_any test xs ≡ true → IsFirst test xs) → IsFirst test (x ∷ xs)
    by true passes some later = record { element = x; found = rw passes refl; stands = Contains-first x xs; passes = passes }
    by false fails some later =
        let rest = later some in
        record { element = rest.element; found = rw fails rest.found; stands = Contains-later x xs rest.element rest.stands; passes = rest.passes }

-- no end of a running node has another fate
none_other : (report : Report) (i : ℕ) → is_running report i ≡ true → none_ended report.ends.items i ≡ true
none_other report i runs =
    let parts = and_parts (nat_lt i report.config.n) (not (is_in report.config.liars i) && all_work report.config.n report.ends.items i) runs in
    let inner = and_parts (not (is_in report.config.liars i)) (all_work report.config.n report.ends.items i) parts.1 in
    (and_parts (list_all (works report.ends.items i) (range_with_len 0 (report.config.n + 1))) (none_ended report.ends.items i) inner.1).1

all_pass : {A : Type 0} (test : A → Bool) (xs : List A) (x : A) → list_all test xs ≡ true → Contains xs x → test x ≡ true
all_pass test xs x all stands = All-contains (λ y. test y ≡ true) xs x (AllPass-from_list_all test xs all) stands

fate_of : (ends : List End) (i x : ℕ) (end : End) → none_ended ends i ≡ true → Contains ends end → (end.node == i) ≡ true → is_running_fate end.fate ≡ true
fate_of ends i x end none stands node =
    let either = all_pass (λ end. not (end.node == i) || is_running_fate end.fate) ends end none stands in
    elim (or_cases (not (end.node == i)) (is_running_fate end.fate) either) [
      | inl other ↦ absurd (both_ways (not (end.node == i)) (not_from_true (end.node == i) node) other)
      | inr runs ↦ runs
    ]

-- the end of actor x of a running node, and what it says that the actor has received
pub record HasEnd (report : Report) (i x : ℕ) : Type 0 where
  pub at : IsAtWork report.ends.items i x
  pub received : received_by report i x ≡ at.end.got.items

pub has_end : (report : Report) (i x : ℕ) → is_running report i ≡ true → x ≤ report.config.n → HasEnd report i x
has_end report i x runs few =
    let ends = report.ends.items in
    let some = works_end ends i x (running_works report i x runs few) in
    let named : is_end_of i x some.end ≡ true =
    and_from (some.end.node == i) (some.end.actor == x) (eq-eqb some.end.node i some.node) (eq-eqb some.end.actor x some.actor) in
    let first = find_first (is_end_of i x) ends (list_any-from (is_end_of i x) ends some.end some.stands named) in
    let parts = and_parts (first.element.node == i) (first.element.actor == x) first.passes in
    record {
      at = record {
        end = first.element;
        stands = first.stands;
        node = eqb-true first.element.node i parts.0;
        actor = eqb-true first.element.actor x parts.1;
        fate = running_of first.element.fate (fate_of ends i x first.element (none_other report i runs) first.stands parts.0);
      };
      received = ap got_by first.found;
    }
