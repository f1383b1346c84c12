-- In generated scenarios nothing of correct nodes is lost.
use Rattle.std.proofs.Common.{◌≡◌, ℕ, zero, suc, ◌+◌, ◌<◌, ◌≤◌, ◌⊎◌, ◌&&◌, ◌==◌, Bool, true, false, if◌then◌else◌, inl, inr, List, [], ◌∷◌, ◌++◌, map, length, Contains, refl, sym, ap, ◌∙◌, subst, arith}
use Rattle.std.specs.List.{AllByRecursion, flat_map, range_with_len}
use Rattle.std.proofs.lemmas.Bool.{cases_eq}
use Rattle.std.proofs.lemmas.List.{length-set, length-replicate, get_or-set_same, get_or-set_other}
use Rattle.std.proofs.lemmas.List.Elements.{All-nil, All-cons, All-append, All-contains, recursion_from_All}
use Rattle.hb_base.specs.Limits.{most_nodes}
use Rattle.hb_base.specs.NodeSet.{is_in}
use Rattle.hb_base.specs.Numbers.{Numbers}
use Rattle.net_script.specs.declared.script.ActorPlan.{ActorPlan}
use Rattle.net_script.specs.declared.script.Link.{Link}
use Rattle.net_script.specs.declared.script.Shape.TheVariants.{Drop}
use Rattle.net_script.specs.Scenario.{Planned, Scenario, planned, told}
use Rattle.scenario_gen.specs.Generated.{nodes, faulty, first_liar, nodes_from, dropped_from, twice_anywhere, late_anywhere, links, plan_of, plans, generated}
use Rattle.scenario_gen.proofs.Sound.{all_made}
use Rattle.seed_words.specs.Words.{word}
use Rattle.hb_rules.specs.declared.report.Report.{Report}
use Rattle.hb_rules.specs.Strings.{NoCollision}
use Rattle.quiet_world.specs.Spared.{IsOfLiar, IsSpared, IsSparedStatus, NoneEndsFull}
use Rattle.hb_app.specs.Scene.{Scene}
use Rattle.hb_app.specs.Statuses.{IsRunStatus, SoakStatuses}

-- ---- rules that drop

marks_count : (first count : ℕ) → length (nodes_from first count) ≡ most_nodes
marks_count first zero = length-replicate most_nodes false
marks_count first (suc count) = length-set (nodes_from first count) (first + count) true ∙ marks_count first count

-- the nodes from the first on are marked
marked : (first count j : ℕ) → first + count ≤ most_nodes → j < count → is_in (nodes_from first count) (first + j) ≡ true
marked first zero j few below = absurd (omega (arith, below))
marked first (suc count) j few below = elim (cases_eq j count) [
  | inl last ↦
      subst (λ (k : ℕ). is_in (nodes_from first (suc count)) (first + k) ≡ true) (sym last)
      (get_or-set_same (nodes_from first count) (first + count) true false (omega (arith, few, marks_count first count)))
  | inr other ↦
      get_or-set_other (nodes_from first count) (first + count) (first + j) true false (λ same. other (omega (arith, same)))
      ∙ marked first count j (omega (arith, few)) (omega (arith, below, other))
]

-- where a rule drops posts, they are a liar's
abbrev SparesCorrect : Report → Link → Type 0
SparesCorrect report link = link.shape ≡ Drop → IsOfLiar report link

drops_of_liars : (report : Report) (n : ℕ) → 4 ≤ n → n ≤ 10 → report.config.liars ≡ nodes_from (first_liar n) (faulty n)
    → (link : Link) → Contains (links n) link → SparesCorrect report link
drops_of_liars report n some most liars link =
    All-contains (SparesCorrect report) (links n) link
    (All-append (SparesCorrect report) (map (dropped_from n) (range_with_len 0 (faulty n))) (twice_anywhere ∷ late_anywhere ∷ [])
    (all_made (dropped_from n) (SparesCorrect report) 0 (faulty n) (λ j low high drops. record {
      node = first_liar n + j;
      named = refl;
      lies =
          ap (λ (set : List Bool). is_in set (first_liar n + j)) liars
          ∙ marked (first_liar n) (faulty n) j (omega (arith, some, most)) (omega (arith, high));
    }))
    (All-cons (SparesCorrect report) twice_anywhere (late_anywhere ∷ []) (λ drops. absurd (cc (drops)))
    (All-cons (SparesCorrect report) late_anywhere [] (λ drops. absurd (cc (drops))) (All-nil (SparesCorrect report)))))

-- ---- faults of disks

abbrev HasNoFault : Planned → Type 0
HasNoFault plan = plan.faults ≡ []

abbrev of_actor : ℕ → ℕ → ActorPlan → Bool
of_actor i x plan = (plan.node == i) && (plan.actor == x)

no_faults : (entries : List ActorPlan) (i x : ℕ) → AllByRecursion HasNoFault (map planned entries)
    → flat_map (λ p. if of_actor i x p then p.plan.faults.items else []) entries ≡ []
no_faults [] i x none = refl
no_faults (entry ∷ entries) i x none = by (of_actor i x entry) none.0 (no_faults entries i x none.1)
  where
    by : {rest : List ℕ} (b : Bool) → entry.plan.faults.items ≡ [] → rest ≡ [] → (if b then entry.plan.faults.items else []) ++ rest ≡ []
    by true here later = rw (here, later) refl
    by false here later = later

-- ---- a generated scenario

pub generated_spares : (number : ℕ) (report : Report) → told report.script ≡ generated number → report.config ≡ (generated number).config
    → NoneEndsFull report → IsSpared report
generated_spares number report script config room = record {
  drops = λ link stands.
      drops_of_liars report n some most (ap (λ (c : Numbers). c.liars) config) link
      (subst (λ (rules : List Link). Contains rules link) (ap (λ (s : Scenario). s.links) script) stands);
  faults = λ i x correct.
      no_faults report.script.plans.items i x
      (subst (λ (entries : List Planned). AllByRecursion HasNoFault entries) (sym (ap (λ (s : Scenario). s.plans) script))
      (recursion_from_All HasNoFault (plans n (word number 0))
      (all_made (plan_of n (word number 0)) HasNoFault 0 (first_liar n) (λ node low high. refl))));
  room = room;
}
  where
    n : ℕ
    n = nodes (word number 0)

    some : 4 ≤ nodes (word number 0)
    some = omega arith

    most : nodes (word number 0) ≤ 10
    most = omega arith

-- the statuses that are left where no actor found no memory
no_other : (run status : ℕ) → run ≡ status → IsRunStatus status → IsSparedStatus run → (status ≡ 0) ⊎ (status ≡ 5)
no_other run status is ran (inl none) = inl (omega (arith, is, none))
no_other run status is ran (inr (inl five)) = inr (omega (arith, is, five))
no_other run status is (inl none) (inr (inr nine)) = inl none
no_other run status is (inr (inl four)) (inr (inr nine)) = absurd (omega (arith, is, four, nine))
no_other run status is (inr (inr five)) (inr (inr nine)) = inr five

-- so a generated run ends with one of them
pub ends : {O E : Type 0} {number : ℕ} {before after : Scene O E} {status : ℕ} → SoakStatuses number before after status → IsRunStatus status
    → NoCollision after.report.config after.report.history.items → NoneEndsFull after.report → (status ≡ 0) ⊎ (status ≡ 5)
ends {O} {E} {number} {before} {after} {status} answered ran apart room =
    let came = answered.ran ran in
    no_other after.report.status status came.1 ran
    (came.0.spared apart (generated_spares number after.report came.0.of.0 came.0.of.1 room))
