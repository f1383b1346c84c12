-- What is planned for the disk of an actor: no script plans more stops than a disk may have.
use Rattle.std.proofs.Common.{◌≡◌, inl, inr, ℕ, suc, ◌≤◌, ◌==◌, ◌&&◌, Bool, true, false, List, [], ◌∷◌, length, map, All, AllPairs, if◌then◌else◌, refl, ap, ◌∙◌, arith, sum_by}
use Rattle.std.proofs.Math.Path.{fun_ext}
use Rattle.std.proofs.lemmas.Bool.{and_parts, eqb-true, false_from_ne_true}
use Rattle.std.proofs.lemmas.List.Concat.{length-flat_map}
use Rattle.std.proofs.lemmas.List.Elements.{All-head, All-tail}
use Rattle.std.proofs.lemmas.List.Sums.{sum_by-cons}
use Rattle.hb_base.specs.Limits.{most_stops}
use Rattle.net_script.specs.declared.script.ActorPlan.{ActorPlan}
use Rattle.net_script.specs.declared.script.Script.{Script}
use Rattle.net_script.specs.Scenario.{planned, told}
use Rattle.net_script.specs.Sound.{IsPlan, IsBefore, IsScenario}
use Rattle.hb_rules.specs.Report.{stops_of}
use Rattle.ledger_run.specs.Team.{planned_stops}

-- whether a plan is of this actor, and the stops that it has for it
abbrev is_of : ℕ → ℕ → ActorPlan → Bool
is_of i x p = (p.node == i) && (p.actor == x)

abbrev stops_in : ℕ → ℕ → ActorPlan → ℕ
stops_in i x p = if is_of i x p then length p.plan.stops.items else 0

if_length : {A : Type 0} (b : Bool) (xs : List A) → length (if b then xs else []) ≡ (if b then length xs else 0)
if_length true xs = refl
if_length false xs = refl

pub planned_count : (s : Script) (i x : ℕ) → length (planned_stops s i x) ≡ stops_of s i x
planned_count s i x =
    length-flat_map (λ (p : ActorPlan). if is_of i x p then p.plan.stops.items else []) s.plans.items
    ∙ ap (λ (f : ActorPlan → ℕ). sum_by f s.plans.items) (fun_ext (λ p. if_length (is_of i x p) p.plan.stops.items))

-- ---- at most one plan is of an actor

later_other : (p q : ActorPlan) (i x : ℕ) → is_of i x p ≡ true → IsBefore (planned p) (planned q) → is_of i x q ≡ false
later_other p q i x one before = false_from_ne_true (is_of i x q) (λ two.
    let first = and_parts (p.node == i) (p.actor == x) one in
    let second = and_parts (q.node == i) (q.actor == x) two in
    apart (eqb-true p.node i first.0) (eqb-true p.actor x first.1) (eqb-true q.node i second.0) (eqb-true q.actor x second.1) before)
  where
    apart : p.node ≡ i → p.actor ≡ x → q.node ≡ i → q.actor ≡ x → IsBefore (planned p) (planned q) → ⊥
    apart a b c d (inl below) = omega (arith, a, c, below)
    apart a b c d (inr (same, below)) = omega (arith, b, d, below)

none_later : (p : ActorPlan) (plans : List ActorPlan) (i x : ℕ) → is_of i x p ≡ true → All (IsBefore (planned p)) (map planned plans)
    → sum_by (stops_in i x) plans ≡ 0
none_later p [] i x one before = refl
none_later p (q ∷ plans) i x one before =
    let here : stops_in i x q ≡ 0 = rw (later_other p q i x one (All-head (IsBefore (planned p)) (planned q) (map planned plans) before)) refl in
    omega (arith, sum_by-cons (stops_in i x) q plans, here, none_later p plans i x one (All-tail (IsBefore (planned p)) (planned q) (map planned plans) before))

few_in : (n : ℕ) (liars : List Bool) (plans : List ActorPlan) (i x : ℕ) → All (IsPlan n liars) (map planned plans)
    → AllPairs IsBefore (map planned plans) → sum_by (stops_in i x) plans ≤ most_stops
few_in n liars [] i x are in_order = omega arith
few_in n liars (p ∷ plans) i x are in_order =
    by (is_of i x p) refl
    (few_in n liars plans i x (All-tail (IsPlan n liars) (planned p) (map planned plans) are)
    (λ j k d before within. in_order (suc j) (suc k) d (omega (arith, before)) (omega (arith, within))))
  where
    later : All (IsBefore (planned p)) (map planned plans)
    later = λ j d within. in_order 0 (suc j) d (omega arith) (omega (arith, within))

    few : length p.plan.stops.items ≤ most_stops
    few = (All-head (IsPlan n liars) (planned p) (map planned plans) are).few_stops

    by : (b : Bool) → is_of i x p ≡ b → sum_by (stops_in i x) plans ≤ most_stops → sum_by (stops_in i x) (p ∷ plans) ≤ most_stops
    by true one rest =
        let here : stops_in i x p ≡ length p.plan.stops.items = rw one refl in
        omega (arith, sum_by-cons (stops_in i x) p plans, here, none_later p plans i x one later, few)
    by false other rest =
        let here : stops_in i x p ≡ 0 = rw other refl in
        omega (arith, sum_by-cons (stops_in i x) p plans, here, rest)

pub few_stops : (s : Script) (i x : ℕ) → IsScenario (told s) → stops_of s i x ≤ most_stops
few_stops s i x scenario = few_in s.config.n s.config.liars s.plans.items i x scenario.plans scenario.in_order
