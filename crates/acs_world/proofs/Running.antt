-- The least number of lists in running nodes' ledgers, up to which these are the same.
use Rattle.std.proofs.Common.{◌≡◌, ℕ, zero, suc, ◌+◌, ◌<◌, ◌≤◌, min, Bool, true, false, inl, inr, List, [], ◌∷◌, ◌++◌, length, map, take, Contains, Option, None, Some, if◌then◌else◌, refl, sym, ap, ◌∙◌, subst, arith}
use Rattle.std.specs.List.{filter, fold, range_with_len}
use Rattle.std.specs.Option.{unwrap_or}
use Rattle.std.proofs.lemmas.Bool.{cases_lt}
use Rattle.std.proofs.lemmas.List.{map-id, map-append}
use Rattle.std.proofs.lemmas.List.FromFn.{map-range_with_len_more}
use Rattle.std.proofs.lemmas.List.Sums.{fold-append}
use Rattle.std.proofs.lemmas.List.Elements.{filter-append}
use Rattle.hb_base.specs.Numbers.{AreSound}
use Rattle.hb_wire.specs.declared.items.Item.{Item}
use Rattle.hb_rules.specs.declared.report.Report.{Report}
use Rattle.hb_rules.specs.History.{IsLegal}
use Rattle.hb_rules.specs.Ledger.{ledger}
use Rattle.hb_rules.specs.Report.{is_running}
use Rattle.hb_rules.specs.Strings.{NoCollision}
use Rattle.hb_rules.proofs.Reports.{running_correct}
use Rattle.hb_rules.proofs.Lists.{Contains-first, Contains-later, Contains-cases}
use Rattle.acs_world.specs.Common.{lower, least_of, least, closed_count, counts_below, common_epochs, AreCommon}
use Rattle.acs_world.proofs.Ledgers.{prefix_take}
use Rattle.acs_world.proofs.Theorems.{ledgers_comparable}

-- ---- node by node

range_more : (n : ℕ) → range_with_len 0 (n + 1) ≡ range_with_len 0 n ++ n ∷ []
range_more n =
    sym (map-id (range_with_len 0 (n + 1))) ∙ map-range_with_len_more (λ (k : ℕ). k) 0 n n (omega arith)
    ∙ ap (λ (xs : List ℕ). xs ++ n ∷ []) (map-id (range_with_len 0 n))

counts_more : (report : Report) (node : ℕ) → counts_below report (node + 1)
    ≡ counts_below report node ++ map (closed_count report) (filter (is_running report) (node ∷ []))
counts_more report node =
    ap (λ (xs : List ℕ). map (closed_count report) (filter (is_running report) xs)) (range_more node)
    ∙ ap (map (closed_count report)) (filter-append (is_running report) (range_with_len 0 node) (node ∷ []))
    ∙ map-append (closed_count report) (filter (is_running report) (range_with_len 0 node)) (filter (is_running report) (node ∷ []))

pub one_more_runs : (report : Report) (node : ℕ) (best : Option ℕ) → best ≡ least_of (counts_below report node) → is_running report node ≡ true
    → Some (lower best (closed_count report node)) ≡ least_of (counts_below report (node + 1))
one_more_runs report node best is runs =
    let one : map (closed_count report) (filter (is_running report) (node ∷ [])) ≡ closed_count report node ∷ [] = rw runs refl in
    sym (ap least_of (counts_more report node ∙ ap (λ (xs : List ℕ). counts_below report node ++ xs) one)
    ∙ fold-append (λ (best : Option ℕ) (count : ℕ). Some (lower best count)) None (counts_below report node) (closed_count report node ∷ [])
    ∙ ap (λ (o : Option ℕ). Some (lower o (closed_count report node))) (sym is))

pub one_more_rests : (report : Report) (node : ℕ) (best : Option ℕ) → best ≡ least_of (counts_below report node) → is_running report node ≡ false
    → best ≡ least_of (counts_below report (node + 1))
one_more_rests report node best is rests =
    let none : map (closed_count report) (filter (is_running report) (node ∷ [])) ≡ [] = rw rests refl in
    is ∙ sym (ap least_of (counts_more report node ∙ ap (λ (xs : List ℕ). counts_below report node ++ xs) none)
    ∙ fold-append (λ (best : Option ℕ) (count : ℕ). Some (lower best count)) None (counts_below report node) [])

-- ---- the least of numbers is no more than each

record IsLowest (numbers : List ℕ) (before : ℕ) (o : Option ℕ) : Type 0 where
  low : ℕ
  is : o ≡ Some low
  before_it : low ≤ before
  each : (x : ℕ) → Contains numbers x → low ≤ x

lowest : (numbers : List ℕ) (before : ℕ)
    → IsLowest numbers before (fold (λ (best : Option ℕ) (count : ℕ). Some (lower best count)) (Some before) numbers)
lowest [] before = record { low = before; is = refl; before_it = omega arith; each = λ x stands. absurd (omega (arith, stands.1)) }
lowest (y ∷ numbers) before =
    let later = lowest numbers (min before y) in
    let first : min before y ≤ before = grind arith in
    let second : min before y ≤ y = grind arith in
    record {
      low = later.low;
      is = later.is;
      before_it = omega (arith, later.before_it, first);
      each = λ x stands.
          Contains-cases y numbers x stands (later.low ≤ x) (λ is. omega (arith, later.before_it, second, is)) (λ rest. later.each x rest);
    }

least_low : (numbers : List ℕ) (x : ℕ) → Contains numbers x → least numbers ≤ x
least_low [] x stands = absurd (omega (arith, stands.1))
least_low (y ∷ numbers) x stands =
    let all = lowest numbers y in
    let low : least (y ∷ numbers) ≡ all.low = ap (λ (o : Option ℕ). unwrap_or o 0) all.is in
    Contains-cases y numbers x stands (least (y ∷ numbers) ≤ x) (λ is. omega (arith, low, all.before_it, is)) (λ rest. omega (arith, low, all.each x rest))

counted : (f : ℕ → ℕ) (p : ℕ → Bool) (s k i : ℕ) → s ≤ i → i < s + k → p i ≡ true → Contains (map f (filter p (range_with_len s k))) (f i)
counted f p s zero i low high passes = absurd (omega arith)
counted f p s (suc k) i low high passes = elim (cases_lt s i) [
  | inl behind ↦ by (p s) (counted f p (s + 1) k i (omega arith) (omega arith) passes)
  | inr not_behind ↦
      let here : s ≡ i = omega arith in
      let now : p s ≡ true = ap p here ∙ passes in
      rw now (subst (λ (m : ℕ). Contains (f s ∷ map f (filter p (range_with_len (s + 1) k))) (f m)) here
      (Contains-first (f s) (map f (filter p (range_with_len (s + 1) k)))))
]
  where
    by : (b : Bool) → Contains (map f (filter p (range_with_len (s + 1) k))) (f i)
        → Contains (map f (if b then s ∷ filter p (range_with_len (s + 1) k) else filter p (range_with_len (s + 1) k))) (f i)
    by true later = Contains-later (f s) (map f (filter p (range_with_len (s + 1) k))) (f i) later
    by false later = later

-- ---- running nodes

common_low : (report : Report) (i : ℕ) → is_running report i ≡ true → common_epochs report ≤ length (ledger report.config report.history.items i)
common_low report i runs =
    least_low (counts_below report report.config.n) (closed_count report i)
    (counted (closed_count report) (is_running report) 0 report.config.n i (omega arith) (omega (arith, (running_correct report i runs).known)) runs)

pub ledgers_common : (report : Report) (count : ℕ) → count ≤ common_epochs report → AreSound report.config
    → IsLegal report.config report.history.items → NoCollision report.config report.history.items → AreCommon report count
ledgers_common report count few sound legal premise = record { one = one }
  where
    ledger_of : ℕ → List (List Item)
    ledger_of i = ledger report.config report.history.items i

    one : (i m : ℕ) → is_running report i ≡ true → is_running report m ≡ true → take count (ledger_of i) ≡ take count (ledger_of m)
    one i m first second = elim (ledgers_comparable report.config report.history.items sound legal premise i m (running_correct report i first)
        (running_correct report m second)) [
          | inl begins ↦ prefix_take (ledger_of i) (ledger_of m) count (omega (arith, few, common_low report i first)) begins
          | inr begins ↦ sym (prefix_take (ledger_of m) (ledger_of i) count (omega (arith, few, common_low report m second)) begins)
        ]
