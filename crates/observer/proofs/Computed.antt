-- What is computed of a run's observers is what is defined of them.
use Rattle.std.proofs.Common.{◌≡◌, ℕ, zero, suc, ◌+◌, ◌-◌, ◌<◌, ◌≤◌, ◌&&◌, ◌||◌, not, Bool, true, false, inl, inr, List, length, slice_get, Contains, Option, None, Some, refl, sym, ap, ◌∙◌, subst, arith}
use Rattle.std.specs.List.{list_all, range_with_len}
use Rattle.std.proofs.lemmas.Bool.{cases_lt, and_parts, and_from, both_ways, leb-true, le-leb, cases_Bool, or_cases, or_left, or_right, not-true, not_from_false}
use Rattle.std.proofs.lemmas.Option.{slice_get_within, slice_get_cases, get_or_from_slice_get}
use Rattle.hb_base.specs.Numbers.{Numbers, AreSound}
use Rattle.hb_wire.specs.declared.items.Item.{Item}
use Rattle.hb_wire.specs.declared.post.Post.{Post}
use Rattle.hb_rules.specs.declared.report.Report.{Report}
use Rattle.hb_rules.specs.History.{IsLegal}
use Rattle.hb_rules.specs.Lanes.{is_correct}
use Rattle.hb_rules.specs.Ledger.{IsCorrect, ledger}
use Rattle.hb_rules.specs.Strings.{NoCollision}
use Rattle.hb_rules.proofs.LaneVotes.{correct_is, correct_from}
use Rattle.hb_rules.proofs.Lists.{contains_at, at_contains}
use Rattle.acs_world.specs.Prefixes.{are_alike}
use Rattle.acs_world.proofs.Exact.{each_passes, all_pass}
use Rattle.acs_world.proofs.Prefixes.{all_below, alike_begins, begins_alike}
use Rattle.observer.specs.Agreeing.{AreTwoOfOne, AreOf, HasClosers, closer_count}
use Rattle.observer.specs.Observed.{observed}
use Rattle.observer.specs.Standing.{ObserverView, ledger_of}
use Rattle.observer.specs.Beside.{heard_beside, observed_beside, IsBeside, AreBeside, ObserversAgree, is_enough, all_enough, agrees_with, has_closers, is_complete, agrees_at, all_agree}
use Rattle.observer.proofs.Arriving.{arriving_of}
use Rattle.observer.proofs.Taken.{heard_ledger}
use Rattle.observer.proofs.Theorems.{agrees_with_nodes, observers_alike, observed_complete}

-- ---- numbers below another

below_all : (test : ℕ → Bool) (s k : ℕ) → ((m : ℕ) → m < k → test (s + m) ≡ true) → list_all test (range_with_len s k) ≡ true
below_all test s zero each = refl
below_all test s (suc k) each =
    let here : s + 0 ≡ s = omega arith in
    and_from (test s) (list_all test (range_with_len (s + 1) k)) (ap test (sym here) ∙ each 0 (omega arith)) (below_all test (s + 1) k (λ m below.
    let e : s + 1 + m ≡ s + suc m = omega arith in
    ap test e ∙ each (suc m) (omega (arith, below))))

-- the same from 0 on
pub each_below : (test : ℕ → Bool) (k m : ℕ) → list_all test (range_with_len 0 k) ≡ true → m < k → test m ≡ true
each_below test k m all below =
    let e : m ≡ 0 + m = omega arith in
    ap test e ∙ all_below test 0 k m all below

pub below_each : (test : ℕ → Bool) (k : ℕ) → ((m : ℕ) → m < k → test m ≡ true) → list_all test (range_with_len 0 k) ≡ true
below_each test k each = below_all test 0 k (λ m below.
    let e : 0 + m ≡ m = omega arith in
    ap test e ∙ each m below)

-- ---- one observer's tests

agrees_from : (c : Numbers) (posts : List Post) (lists : List (List Item)) (k : ℕ) → agrees_with c posts lists k ≡ true → IsCorrect c k
    → AreTwoOfOne lists (ledger c posts k)
agrees_from c posts lists k h correct =
    elim (or_cases (not (is_correct c k)) (are_alike lists (ledger c posts k)) h) [
      | inl lies ↦ absurd (both_ways (is_correct c k) (not-true (is_correct c k) lies) (correct_from c k correct))
      | inr alike ↦ alike_begins lists (ledger c posts k) alike
    ]

agrees_by : (c : Numbers) (posts : List Post) (lists : List (List Item)) (k : ℕ) → (IsCorrect c k → AreTwoOfOne lists (ledger c posts k))
    → agrees_with c posts lists k ≡ true
agrees_by c posts lists k begins = elim (cases_Bool (is_correct c k)) [
  | inl right ↦ or_right (not (is_correct c k)) (are_alike lists (ledger c posts k)) (begins_alike lists (ledger c posts k) (begins (correct_is c k right)))
  | inr lies ↦ or_left (not (is_correct c k)) (are_alike lists (ledger c posts k)) (not_from_false (is_correct c k) lies)
]

enough_from : (c : Numbers) (lists : List (List Item)) (list : List Item) → all_enough c lists ≡ true → Contains lists list → c.n - c.f ≤ length list
enough_from c lists list h stands =
    let at = contains_at lists list stands in
    let inside : at.0 < length lists = slice_get_within lists at.0 list at.1 in
    let test : is_enough c (slice_get lists at.0) ≡ true = each_below (λ (e : ℕ). is_enough c (slice_get lists e)) (length lists) at.0 h inside in
    leb-true (c.n - c.f) (length list) (ap (is_enough c) (sym at.1) ∙ test)

enough_by : (c : Numbers) (lists : List (List Item)) → ((list : List Item) → Contains lists list → c.n - c.f ≤ length list)
    → all_enough c lists ≡ true
enough_by c lists each = below_each (λ (e : ℕ). is_enough c (slice_get lists e)) (length lists) (λ e inside. by e (slice_get lists e) refl)
  where
    by : (e : ℕ) (o : Option (List Item)) → slice_get lists e ≡ o → is_enough c o ≡ true
    by e None is = refl
    by e (Some list) is = le-leb (c.n - c.f) (length list) (each list (at_contains lists e list is))

-- whether so many have closed each epoch up to one
abbrev all_closed : Numbers → List Post → ℕ → Bool
all_closed c heard count = has_closers c heard count && list_all (has_closers c heard) (range_with_len 0 count)

closers_from : (c : Numbers) (heard : List Post) (count : ℕ) → all_closed c heard count ≡ true → HasClosers c heard count
closers_from c heard count all d low = elim (cases_lt d count) [
  | inl below ↦
      leb-true (c.f + 1) (closer_count c heard d) (each_below (has_closers c heard) count d parts.1 below)
  | inr past ↦
      let same : count ≡ d = omega (arith, low, past) in
      leb-true (c.f + 1) (closer_count c heard d) (ap (has_closers c heard) (sym same) ∙ parts.0)
]
  where
    parts : (has_closers c heard count ≡ true) × (list_all (has_closers c heard) (range_with_len 0 count) ≡ true)
    parts = and_parts (has_closers c heard count) (list_all (has_closers c heard) (range_with_len 0 count)) all

closers_by : (c : Numbers) (heard : List Post) (count : ℕ) → HasClosers c heard count → all_closed c heard count ≡ true
closers_by c heard count closers =
    and_from (has_closers c heard count) (list_all (has_closers c heard) (range_with_len 0 count))
    (le-leb (c.f + 1) (closer_count c heard count) (closers count (omega arith)))
    (below_each (has_closers c heard) count (λ d below. le-leb (c.f + 1) (closer_count c heard d) (closers d (omega (arith, below)))))

complete_from : (report : Report) (i count e : ℕ) → is_complete report i count ≡ true → HasClosers report.config (heard_beside report i) e
    → e < count
complete_from report i count e h closers = elim (cases_lt e count) [
  | inl below ↦ below
  | inr past ↦
      let all : all_closed report.config (heard_beside report i) count ≡ true =
      closers_by report.config (heard_beside report i) count (λ d low. closers d (omega (arith, low, past))) in
      absurd (both_ways (all_closed report.config (heard_beside report i) count) (not-true (all_closed report.config (heard_beside report i) count) h) all)
]

complete_by : (report : Report) (i count : ℕ) → ((e : ℕ) → HasClosers report.config (heard_beside report i) e → e < count)
    → is_complete report i count ≡ true
complete_by report i count each = by (all_closed report.config (heard_beside report i) count) refl
  where
    by : (b : Bool) → all_closed report.config (heard_beside report i) count ≡ b → not (all_closed report.config (heard_beside report i) count) ≡ true
    by false some = not_from_false (all_closed report.config (heard_beside report i) count) some
    by true all = absurd (omega (arith, each count (closers_from report.config (heard_beside report i) count all)))

-- ---- all observers

-- what the observer beside a node has taken
pub beside_ledger : (report : Report) (i : ℕ) (o : ObserverView) → IsBeside report i o → ledger_of o ≡ observed_beside report i
beside_ledger report i o beside =
    heard_ledger o (heard_beside report i) beside.heard ∙ ap (λ (c : Numbers). observed c (heard_beside report i)) beside.config

-- the observer beside a node
there : (report : Report) (observers : List ObserverView) (i : ℕ) → AreBeside report report.config.n observers → i < report.config.n
    → (o : ObserverView) × (slice_get observers i ≡ Some o) × IsBeside report i o
there report observers i are inside = elim (slice_get_cases observers i).1 [
  | inl found ↦ (found.0, found.2, subst (λ (o : ObserverView). IsBeside report i o) found.3 (are.each i found.0 inside))
  | inr past ↦ absurd (omega (arith, inside, are.many, past.0))
]

-- what is so of the observer beside a node
pub record Passes (report : Report) (observers : List ObserverView) (i : ℕ) (lists : List (List Item)) : Type 0 where
  pub nodes : list_all (agrees_with report.config report.history.items lists) (range_with_len 0 report.config.n) ≡ true
  pub others : list_all (λ (other : ObserverView). are_alike lists (ledger_of other)) observers ≡ true
  pub enough : all_enough report.config lists ≡ true
  pub complete : is_complete report i (length lists) ≡ true

passes : (report : Report) (observers : List ObserverView) (i : ℕ) → AreBeside report report.config.n observers
    → all_agree report observers ≡ true → i < report.config.n → Passes report observers i (observed_beside report i)
passes report observers i are all inside =
    let o = there report observers i are inside in
    let test : agrees_at report observers i (Some o.0) ≡ true =
    ap (agrees_at report observers i) (sym o.1)
    ∙ each_below (λ (j : ℕ). agrees_at report observers j (slice_get observers j)) report.config.n i all inside in
    let first = and_parts _ _ test in
    let second = and_parts _ _ first.0 in
    let third = and_parts _ _ second.0 in
    subst (λ (lists : List (List Item)). Passes report observers i lists) (beside_ledger report i o.0 o.2)
    (record { nodes = third.0; others = third.1; enough = second.1; complete = first.1 })

pub agree_from : (report : Report) (observers : List ObserverView) → AreBeside report report.config.n observers
    → all_agree report observers ≡ true → ObserversAgree report
agree_from report observers are all = record {
  nodes = λ i k inside correct.
      agrees_from report.config report.history.items (observed_beside report i) k
      (each_below (agrees_with report.config report.history.items (observed_beside report i)) report.config.n k
      (passes report observers i are all inside).nodes correct.known) correct;
  observers = λ i k inside also.
      let o = there report observers k are also in
      alike_begins (observed_beside report i) (observed_beside report k)
      (ap (are_alike (observed_beside report i)) (sym (beside_ledger report k o.0 o.2))
      ∙ each_passes (λ (other : ObserverView). are_alike (observed_beside report i) (ledger_of other)) observers o.0
      (passes report observers i are all inside).others (at_contains observers k o.0 o.1));
  enough = λ i list inside stands.
      enough_from report.config (observed_beside report i) list (passes report observers i are all inside).enough stands;
  complete = λ i e inside closers.
      complete_from report i (length (observed_beside report i)) e (passes report observers i are all inside).complete closers;
}

pub agree_by : (report : Report) (observers : List ObserverView) → AreBeside report report.config.n observers → ObserversAgree report
    → all_agree report observers ≡ true
agree_by report observers are agree =
    below_each (λ (i : ℕ). agrees_at report observers i (slice_get observers i)) report.config.n (λ i inside.
    let o = there report observers i are inside in
    ap (agrees_at report observers i) o.1 ∙ of_one i inside o.0 (beside_ledger report i o.0 o.2))
  where
    other_alike : (i : ℕ) → i < report.config.n → (other : ObserverView) → Contains observers other
        → are_alike (observed_beside report i) (ledger_of other) ≡ true
    other_alike i inside other stands =
        let at = contains_at observers other stands in
        let within : at.0 < report.config.n = omega (arith, are.many, slice_get_within observers at.0 other at.1) in
        let beside : IsBeside report at.0 other =
        subst (λ (o : ObserverView). IsBeside report at.0 o) (get_or_from_slice_get observers at.0 other other at.1) (are.each at.0 other within) in
        ap (are_alike (observed_beside report i)) (beside_ledger report at.0 other beside)
        ∙ begins_alike (observed_beside report i) (observed_beside report at.0) (agree.observers i at.0 inside within)

    of_one : (i : ℕ) → i < report.config.n → (o : ObserverView) → ledger_of o ≡ observed_beside report i
        → agrees_at report observers i (Some o) ≡ true
    of_one i inside o is =
        let lists = observed_beside report i in
        rw is (and_from _ _ (and_from _ _ (and_from _ _
        (below_each (agrees_with report.config report.history.items lists) report.config.n (λ k low.
        agrees_by report.config report.history.items lists k (λ correct. agree.nodes i k inside correct)))
        (all_pass (λ (other : ObserverView). are_alike lists (ledger_of other)) observers (λ other stands. other_alike i inside other stands)))
        (enough_by report.config lists (λ list stands. agree.enough i list inside stands)))
        (complete_by report i (length lists) (λ e closers. agree.complete i e inside closers)))

-- ---- legal histories

pub legal_agree : (report : Report) → AreSound report.config → IsLegal report.config report.history.items
    → NoCollision report.config report.history.items → ObserversAgree report
legal_agree report sound legal premise = record {
  nodes = λ i k inside correct. (agrees_with_nodes c history (heard_beside report i) sound legal premise (of i)).nodes k correct;
  observers = λ i k inside also.
      observers_alike c history (heard_beside report i) (heard_beside report k) sound legal premise (of i) (of k);
  enough = λ i list inside stands. (agrees_with_nodes c history (heard_beside report i) sound legal premise (of i)).enough list stands;
  complete = λ i e inside closers. observed_complete c history (heard_beside report i) e sound legal premise (of i) closers;
}
  where
    c : Numbers
    c = report.config

    history : List Post
    history = report.history.items

    of : (i : ℕ) → AreOf history (heard_beside report i)
    of i = arriving_of report.script.links.items i 0 history
