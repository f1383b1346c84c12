-- The theorem on the status of a run in which nothing of correct nodes is lost.
use Rattle.std.proofs.Common.{◌≡◌, ℕ, zero, suc, ◌-◌, ◌≤◌, ◌⊎◌, ◌&&◌, ◌||◌, ◌==◌, ◌%◌, not, nat_lt, Bool, true, false, inl, inr, List, [], ◌∷◌, Contains, Option, Some, if◌then◌else◌, refl, sym, ap, ◌∙◌, subst, arith}
use Rattle.std.specs.List.{list_any, list_all, range_with_len}
use Rattle.std.proofs.lemmas.Bool.{and_from, and_parts, eqb-true, eq-eqb, not_from_false}
use Rattle.hb_base.specs.Counting.{count_nodes}
use Rattle.hb_base.specs.Limits.{most_nodes}
use Rattle.hb_base.specs.NodeSet.{is_in}
use Rattle.hb_base.specs.Numbers.{Numbers, AreSound}
use Rattle.hb_wire.specs.Votes.{epoch_of}
use Rattle.hb_wire.specs.declared.vote.Vote.{Vote}
use Rattle.hb_wire.specs.declared.vote.Vote.TheVariants.{Pick}
use Rattle.net_script.specs.declared.script.Link.{Link}
use Rattle.net_script.specs.declared.script.Shape.{Shape}
use Rattle.net_script.specs.declared.script.Shape.TheVariants.{Once, Twice, Late, Drop}
use Rattle.net_script.specs.Delivery.{is_any_or, fits, first_shape, shape_of}
use Rattle.hb_rules.specs.declared.report.End.{End}
use Rattle.hb_rules.specs.declared.report.Fate.{Fate}
use Rattle.hb_rules.specs.declared.report.Fate.TheVariants.{Running, Memory, Journal, Full}
use Rattle.hb_rules.specs.declared.report.Report.{Report}
use Rattle.hb_rules.specs.History.{IsLegal}
use Rattle.hb_rules.specs.Ledger.{IsCorrect}
use Rattle.hb_rules.specs.Claims.{is_any_decision}
use Rattle.hb_rules.specs.Marks.{is_any_pick, any_pick, any_decision, has}
use Rattle.hb_rules.specs.Report.{is_drop, is_memory_fate, is_last_pick, works, is_running, cast_by, has_closed_last, is_stuck, has_spent_lane, has_closed_all, status_of, IsQuiet, StaysWithinPlan}
use Rattle.hb_rules.specs.Strings.{NoCollision}
use Rattle.hb_rules.proofs.Among.{any_stands}
use Rattle.hb_rules.proofs.Counts.{count_nodes-mono, count_nodes-wider, count_nodes-less, member_from_count}
use Rattle.hb_rules.proofs.Lists.{list_any-from, Contains-first, Contains-later}
use Rattle.hb_rules.proofs.Reports.{running_correct, running_works}
use Rattle.acs_world.proofs.Exact.{all_pass}
use Rattle.lane_progress.specs.Calm.{IsCalm}
use Rattle.aba_progress.proofs.Marked.{any_pick-is}
use Rattle.quiet_world.specs.Epochs.{HasEachClosed, HasSpentSome}
use Rattle.quiet_world.specs.Spared.{IsOfLiar, IsSpared, IsSparedStatus}
use Rattle.quiet_world.proofs.Actors.{in_range, end_correct, correct_runs}
use Rattle.quiet_world.proofs.Epochs.{epochs_end}

-- ---- nothing is lost between correct nodes

drop_cases : (shape : Shape) → (is_drop shape ≡ false) ⊎ (shape ≡ Drop)
drop_cases Once = inl refl
drop_cases Twice = inl refl
drop_cases Late = inl refl
drop_cases Drop = inr refl

-- a rule that fits a post names its node, or any
names_from : (link : Link) (i a k node : ℕ) → fits link i a k ≡ true → link.from ≡ Some node → node ≡ i
names_from link i a k node fit named =
    let often = and_parts ((is_any_or link.from i && is_any_or link.to a) && nat_lt 0 link.every) (k % link.every == link.at) fit in
    let some = and_parts (is_any_or link.from i && is_any_or link.to a) (nat_lt 0 link.every) often.0 in
    let both = and_parts (is_any_or link.from i) (is_any_or link.to a) some.0 in
    eqb-true node i (ap (λ (o : Option ℕ). is_any_or o i) (sym named) ∙ both.0)

first_kept : (report : Report) (links : List Link) (i a k : ℕ) → ((link : Link) → Contains links link → link.shape ≡ Drop → IsOfLiar report link)
    → is_in report.config.liars i ≡ false → is_drop (first_shape links i a k) ≡ false
first_kept report [] i a k drops honest = refl
first_kept report (link ∷ links) i a k drops honest =
    by (fits link i a k) refl (first_kept report links i a k (λ l stands. drops l (Contains-later link links l stands)) honest)
  where
    by : (b : Bool) → fits link i a k ≡ b → is_drop (first_shape links i a k) ≡ false
        → is_drop (if b then link.shape else first_shape links i a k) ≡ false
    by true fit later = elim (drop_cases link.shape) [
      | inl kept ↦ kept
      | inr dropped ↦
          let liar = drops link (Contains-first link links) dropped in
          let node : liar.node ≡ i = names_from link i a k liar.node fit liar.named in
          absurd (cc (honest, ap (is_in report.config.liars) node, liar.lies))
    ]
    by false fit later = later

kept : (report : Report) (i a k : ℕ) → IsSpared report → is_in report.config.liars i ≡ false
    → is_drop (shape_of report.script.links.items i a k) ≡ false
kept report i a k spared honest = by (i == a)
  where
    by : (b : Bool) → is_drop (if b then Once else first_shape report.script.links.items i a k) ≡ false
    by true = refl
    by false = first_kept report report.script.links.items i a k spared.drops honest

-- ---- all correct nodes run, unless one found no memory

-- whether an actor of a correct node found no memory
abbrev lacks_memory : Report → End → Bool
lacks_memory report end = not (is_in report.config.liars end.node) && is_memory_fate end.fate

nothing_in : {A : Type 0} (x : A) → Contains [] x → ⊥
nothing_in x stands = omega (arith, stands.1)

runs_on : (report : Report) → IsQuiet report → StaysWithinPlan report → IsSpared report → list_any (lacks_memory report) report.ends.items ≡ false
    → (end : End) → Contains report.ends.items end → end.fate ≡ Running
runs_on report quiet within spared memory end stands = by end.fate refl
  where
    correct : IsCorrect report.config end.node
    correct = end_correct report end quiet stands

    by : (fate : Fate) → end.fate ≡ fate → fate ≡ Running
    by Running is = refl
    by Memory is =
        let lacks : lacks_memory report end ≡ true =
        and_from (not (is_in report.config.liars end.node)) (is_memory_fate end.fate) (not_from_false (is_in report.config.liars end.node) correct.honest)
        (ap is_memory_fate is) in
        absurd (cc (memory, list_any-from (lacks_memory report) report.ends.items end stands lacks))
    by Journal is =
        let fault = within.journals end stands is in
        absurd (nothing_in fault.call (subst (λ (calls : List ℕ). Contains calls fault.call) (spared.faults end.node end.actor correct) fault.planned))
    by Full is = absurd (spared.room end stands is)

count_all : (n : ℕ) → count_nodes n (λ a. true) ≡ n
count_all zero = refl
count_all (suc n) = let below : count_nodes n (λ a. true) ≡ n = count_all n in omega (arith, below)

many_run : (report : Report) → AreSound report.config → ((i : ℕ) → IsCorrect report.config i → is_running report i ≡ true)
    → report.config.n - report.config.f ≤ count_nodes report.config.n (is_running report)
many_run report sound runs =
    let n : ℕ = report.config.n in
    let lies : ℕ → Bool = is_in report.config.liars in
    let few : count_nodes n lies ≤ report.config.f = omega (arith, count_nodes-wider n most_nodes lies sound.nodes.1, sound.few) in
    let more : count_nodes n (λ a. true && not (lies a)) ≤ count_nodes n (is_running report) =
    count_nodes-mono n (λ a. true && not (lies a)) (is_running report) (λ a below honest. runs a (record { known = below; honest = honest_is (lies a) honest })) in
    omega (arith, few, more, count_all n, count_nodes-less n (λ a. true) lies)
  where
    honest_is : (b : Bool) → not b ≡ true → b ≡ false
    honest_is true h = absurd (cc (h))
    honest_is false h = refl

calm_of : (report : Report) → AreSound report.config → IsLegal report.config report.history.items → NoCollision report.config report.history.items
    → IsQuiet report → StaysWithinPlan report → IsSpared report → list_any (lacks_memory report) report.ends.items ≡ false → IsCalm report
calm_of report sound legal apart quiet within spared memory = record {
  lossless = record {
    sound = sound;
    legal = legal;
    apart = apart;
    many = many_run report sound (λ i correct. correct_runs report i quiet (runs_on report quiet within spared memory) correct);
    whole = λ i k post runs run stands. kept report post.from i k spared (running_correct report post.from run).honest;
  };
  quiet = quiet;
}

-- ---- the status

all_closed : (report : Report) → IsCalm report → HasEachClosed report → has_closed_all report ≡ true
all_closed report calm closed =
    and_from (list_any (is_running report) (range_with_len 0 report.config.n))
    (list_all (λ i. not (is_running report i) || has_closed_last report i) (range_with_len 0 report.config.n))
    (let some = member_from_count report.config.n (is_running report) (omega (arith, calm.lossless.many, calm.lossless.sound.enough)) in
    list_any-from (is_running report) (range_with_len 0 report.config.n) some.0 (in_range report.config.n some.0 some.1) some.2)
    (all_pass (λ i. not (is_running report i) || has_closed_last report i) (range_with_len 0 report.config.n) (λ i stands. each i (is_running report i) refl))
  where
    each : (i : ℕ) (b : Bool) → is_running report i ≡ b → (not b || has_closed_last report i) ≡ true
    each i true runs = closed i (report.config.epochs - 1) runs (omega (arith, calm.lossless.sound.epochs.0))
    each i false runs = refl

-- a lane that has spent its rounds in an epoch is stuck
stuck : (c : Numbers) (own : List Vote) (e : ℕ) → has e (any_pick (c.rounds - 1)) own ≡ true → has e any_decision own ≡ false
    → is_stuck c own ≡ true
stuck c own e picked undecided =
    let found = any_stands (is_any_pick e (c.rounds - 1)) own picked in
    let is = any_pick-is e (c.rounds - 1) found.0 found.2 in
    let cast : Contains own (Pick e (c.rounds - 1) is.0) = subst (λ (v : Vote). Contains own v) is.1 found.1 in
    list_any-from (λ vote. is_last_pick c vote && not (list_any (is_any_decision (epoch_of vote)) own)) own (Pick e (c.rounds - 1) is.0) cast
    (and_from (c.rounds - 1 == c.rounds - 1) (not (list_any (is_any_decision e) own)) (eq-eqb (c.rounds - 1) (c.rounds - 1) refl)
    (not_from_false (list_any (is_any_decision e) own) undecided))

some_spent : (report : Report) → HasSpentSome report → list_any (has_spent_lane report) (range_with_len 0 report.config.n) ≡ true
some_spent report some =
    let n : ℕ = report.config.n in
    let i : ℕ = some.spent.node in
    let runs : is_running report i ≡ true = some.spent.running in
    let correct : IsCorrect report.config i = running_correct report i runs in
    let test : ℕ → Bool = λ j. works report.ends.items i j && is_stuck report.config (cast_by report i j) in
    let lane : list_any test (range_with_len 0 n) ≡ true =
    list_any-from test (range_with_len 0 n) some.lane (in_range n some.lane some.inside)
    (and_from (works report.ends.items i some.lane) (is_stuck report.config (cast_by report i some.lane))
    (running_works report i some.lane runs (omega (arith, some.inside)))
    (stuck report.config (cast_by report i some.lane) some.epoch some.spent.picked some.spent.undecided)) in
    list_any-from (has_spent_lane report) (range_with_len 0 n) i (in_range n i correct.known)
    (and_from (not (is_in report.config.liars i)) (list_any test (range_with_len 0 n)) (not_from_false (is_in report.config.liars i) correct.honest) lane)

status_cases : (memory closed spent : Bool) → (memory ≡ false → (closed ≡ true) ⊎ (spent ≡ true))
    → IsSparedStatus (if memory then 9 else (if closed then 0 else (if spent then 5 else 4)))
status_cases true closed spent ends = inr (inr refl)
status_cases false true spent ends = inl refl
status_cases false false true ends = inr (inl refl)
status_cases false false false ends = elim (ends refl) [
  | inl closed ↦ absurd (cc (closed))
  | inr spent ↦ absurd (cc (spent))
]

pub spared_status : (report : Report) → AreSound report.config → IsLegal report.config report.history.items → NoCollision report.config report.history.items → IsQuiet report → StaysWithinPlan report
    → IsSpared report → report.status ≡ status_of report → IsSparedStatus report.status
spared_status report sound legal apart quiet within spared status =
    subst IsSparedStatus (sym status)
    (status_cases (list_any (lacks_memory report) report.ends.items) (has_closed_all report)
    (list_any (has_spent_lane report) (range_with_len 0 report.config.n)) ends)
  where
    ends : list_any (lacks_memory report) report.ends.items ≡ false
        → (has_closed_all report ≡ true) ⊎ (list_any (has_spent_lane report) (range_with_len 0 report.config.n) ≡ true)
    ends memory =
        let calm = calm_of report sound legal apart quiet within spared memory in
        elim (epochs_end report calm) [
          | inl closed ↦ inl (all_closed report calm closed)
          | inr spent ↦ inr (some_spent report spent)
        ]
