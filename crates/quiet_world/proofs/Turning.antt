-- Lanes and desks of running nodes in a calm run: in which lanes they have decided, and that a desk in the end wants no more lanes.
use Rattle.std.proofs.Common.{◌≡◌, ℕ, zero, suc, ◌-◌, ◌<◌, ◌≤◌, ◌⊎◌, Bool, true, false, inl, inr, List, Contains, Option, Some, refl, sym, ap, ◌∙◌, subst, arith}
use Rattle.std.specs.List.{list_any}
use Rattle.std.proofs.lemmas.Bool.{cases_eq}
use Rattle.hb_base.specs.Numbers.{Numbers}
use Rattle.hb_wire.specs.declared.post.Post.{Post}
use Rattle.hb_wire.specs.declared.vote.Vote.TheVariants.{Delivered, Decided, NoMore}
use Rattle.hb_rules.specs.declared.report.Report.{Report}
use Rattle.hb_rules.specs.Claims.{is_bit, is_any_decision, is_any_delivery, is_no_more}
use Rattle.hb_rules.specs.DeskRows.{decision_of}
use Rattle.hb_rules.specs.Ledger.{IsCorrect}
use Rattle.hb_rules.specs.Marks.{any_est, any_decision}
use Rattle.hb_rules.specs.Report.{is_running, cast_by}
use Rattle.hb_rules.proofs.Counts.{count_nodes-mono, correct_member}
use Rattle.hb_rules.proofs.DeskParts.{ones}
use Rattle.hb_rules.proofs.Lists.{list_any-from}
use Rattle.hb_rules.proofs.Reports.{IsAtWork, running_correct}
use Rattle.aba_world.proofs.Theorems.{decisions_agree, decisions_begun, beginnings_backed}
use Rattle.acs_world.proofs.Backed.{was_enough}
use Rattle.lane_progress.specs.Calm.{IsCalm}
use Rattle.aba_progress.specs.RoundsEnd.{EachHas}
use Rattle.aba_progress.proofs.Theorems.{all_end}
use Rattle.rbc_progress.proofs.Theorems.{delivers_to_all}
use Rattle.quiet_world.specs.Epochs.{HasSpentSome}
use Rattle.quiet_world.proofs.Knowing.{decision_cast, delivery_cast, delivery-marked, known_cast, knows_decision}
use Rattle.quiet_world.proofs.Rests.{heard_at_desk, desk_of, wants_no_more, begun_with_one}

-- where each number below n that passes a test has a property or there is a way out, all of them have it or there is a way out
pub each_or : (n : ℕ) (p : ℕ → Bool) (P : ℕ → Type 0) (S : Type 0) → ((a : ℕ) → a < n → p a ≡ true → P a ⊎ S)
    → ((a : ℕ) → a < n → p a ≡ true → P a) ⊎ S
each_or zero p P S each = inl (λ a below passes. absurd (omega (arith, below)))
each_or (suc n) p P S each =
    elim (each_or n p P S (λ a below passes. each a (omega (arith, below)) passes)) [
      | inl before ↦ by (p n) refl before
      | inr way ↦ inr way
    ]
  where
    by : (b : Bool) → p n ≡ b → ((a : ℕ) → a < n → p a ≡ true → P a) → ((a : ℕ) → a < suc n → p a ≡ true → P a) ⊎ S
    by true here before = elim (each n (omega arith) here) [
      | inl last ↦ inl (λ a below passes. elim (cases_eq a n) [
        | inl same ↦ subst P (sym same) last
        | inr other ↦ before a (omega (arith, below, other)) passes
      ])
      | inr way ↦ inr way
    ]
    by false here before = inl (λ a below passes. elim (cases_eq a n) [
      | inl same ↦ absurd (cc (here, ap p same, passes))
      | inr other ↦ before a (omega (arith, below, other)) passes
    ])

-- ---- lanes

-- where all running nodes have begun they have decided
pub all_decide : (report : Report) (j e : ℕ) → IsCalm report → j < report.config.n → e < report.config.epochs → EachHas report j e (any_est 0)
    → EachHas report j e any_decision ⊎ HasSpentSome report
all_decide report j e calm inside below begun = elim ((all_end report calm).each j e inside below begun) [
  | inl decided ↦ inl decided
  | inr spent ↦ inr (record { lane = j; epoch = e; inside = inside; known = below; spent = spent })
]

-- where a correct node has decided 1, some correct node began with it, so it has delivered, and every running node has
pub one_delivered : (report : Report) (j e k i : ℕ) → IsCalm report → j < report.config.n → IsCorrect report.config k
    → is_running report i ≡ true → Contains (cast_by report k j) (Decided e true) → list_any (is_any_delivery e) (cast_by report i j) ≡ true
one_delivered report j e k i calm inside correct runs decided =
    let began = (decisions_begun report.config report.history.items calm.lossless.sound calm.lossless.legal).begun j e k true inside correct decided in
    let said : list_any (is_any_delivery e) (cast_by report began.node j) ≡ true =
    (beginnings_backed report.config report.history.items calm.lossless.legal).delivered j e began.node began.correct began.cast in
    let value = delivery_cast e (cast_by report began.node j) said in
    list_any-from (is_any_delivery e) (cast_by report i j) (Delivered e value.0)
    ((delivers_to_all report calm).all j e began.node i value.0 began.correct runs value.1) (delivery-marked e value.0)

-- two decisions of correct nodes in a lane are one
same_decision : (report : Report) (j e i k : ℕ) (bit other : Bool) → IsCalm report → j < report.config.n → IsCorrect report.config i
    → IsCorrect report.config k → Contains (cast_by report i j) (Decided e bit) → Contains (cast_by report k j) (Decided e other) → bit ≡ other
same_decision report j e i k bit other calm inside correct also first second =
    (decisions_agree report.config report.history.items calm.lossless.sound calm.lossless.legal calm.lossless.apart).one j e i k bit other inside correct
    also first second

-- so every running node has decided 1
one_decided : (report : Report) (j e k i : ℕ) → IsCalm report → j < report.config.n → e < report.config.epochs → IsCorrect report.config k
    → is_running report i ≡ true → Contains (cast_by report k j) (Decided e true)
    → Contains (cast_by report i j) (Decided e true) ⊎ HasSpentSome report
one_decided report j e k i calm inside below correct runs decided =
    elim (all_decide report j e calm inside below
    (λ m run. begun_with_one report m j e calm run inside below (one_delivered report j e k m calm inside correct run decided))) [
      | inl all ↦
          let some = decision_cast e (cast_by report i j) (all i runs) in
          let same : some.0 ≡ true = same_decision report j e i k some.0 true calm inside (running_correct report i runs) correct some.1 decided in
          inl (subst (λ (b : Bool). Contains (cast_by report i j) (Decided e b)) same some.1)
      | inr spent ↦ inr spent
    ]

-- ---- desks

-- what a lane has decided its desk knows
knows_exactly : (report : Report) (i e j : ℕ) (bit : Bool) → IsCalm report → is_running report i ≡ true
    → (desk : IsAtWork report.ends.items i report.config.n) → e < report.config.epochs → j < report.config.n
    → Contains (cast_by report i j) (Decided e bit) → decision_of e (heard_at_desk report i desk) j ≡ Some bit
knows_exactly report i e j bit calm runs desk below inside cast =
    let first = knows_decision report i e j bit calm.lossless.legal calm.quiet runs desk below inside cast in
    let correct = running_correct report i runs in
    let same : first.0 ≡ bit =
    same_decision report j e i i first.0 bit calm inside correct correct (known_cast report i e j first.0 desk first.1) cast in
    first.1 ∙ ap (λ (b : Bool). Some b) same

-- what a correct node has decided to accept, the desk of a running node knows to be accepted
knows_one : (report : Report) (j e k i : ℕ) → IsCalm report → (desk : IsAtWork report.ends.items i report.config.n) → j < report.config.n
    → e < report.config.epochs → IsCorrect report.config k → is_running report i ≡ true → Contains (cast_by report k j) (Decided e true)
    → (is_bit true (decision_of e (heard_at_desk report i desk) j) ≡ true) ⊎ HasSpentSome report
knows_one report j e k i calm desk inside below correct runs decided =
    elim (one_decided report j e k i calm inside below correct runs decided) [
      | inl one ↦ inl (ap (is_bit true) (knows_exactly report i e j true calm runs desk below inside one))
      | inr spent ↦ inr spent
    ]

-- Where a lane has decided 0, some correct node began with it, so its desk wanted no more lanes, so n - f of its lanes had decided
-- 1. Of these decisions the desk of each running node knows.
knows_enough : (report : Report) (i e j : ℕ) → IsCalm report → (desk : IsAtWork report.ends.items i report.config.n) → j < report.config.n
    → e < report.config.epochs → is_running report i ≡ true → Contains (cast_by report i j) (Decided e false)
    → (report.config.n - report.config.f ≤ ones report.config e (heard_at_desk report i desk)) ⊎ HasSpentSome report
knows_enough report i e j calm desk inside below runs decided =
    let c : Numbers = report.config in
    let history : List Post = report.history.items in
    let began = (decisions_begun c history calm.lossless.sound calm.lossless.legal).begun j e i false inside (running_correct report i runs) decided in
    let unwanted : Contains (cast_by report began.node c.n) (NoMore e) =
    (beginnings_backed c history calm.lossless.legal).unwanted j e began.node began.correct began.cast in
    let enough = was_enough c history began.node e calm.lossless.legal began.correct.honest unwanted in
    let accepts : ℕ → Bool = λ m. is_bit true (decision_of e (heard_at_desk report i desk) m) in
    elim (each_or c.n enough.votes (λ m. accepts m ≡ true) (HasSpentSome report)
    (λ m within votes. knows_one report m e began.node i calm desk within below began.correct runs (enough.each m votes))) [
      | inl all ↦ inl (omega (arith, enough.many, count_nodes-mono c.n enough.votes accepts all))
      | inr spent ↦ inr spent
    ]

nought : (o : Option Bool) (bit : Bool) → o ≡ Some bit → is_bit true o ≡ false → bit ≡ false
nought o true is other = absurd (cc (ap (is_bit true) is, other))
nought o false is other = refl

-- a lane that has decided, and that its desk does not know to have decided 1, has decided 0
decided_nought : (report : Report) (i e j : ℕ) → IsCalm report → is_running report i ≡ true → (desk : IsAtWork report.ends.items i report.config.n)
    → e < report.config.epochs → j < report.config.n → list_any (is_any_decision e) (cast_by report i j) ≡ true
    → is_bit true (decision_of e (heard_at_desk report i desk) j) ≡ false → Contains (cast_by report i j) (Decided e false)
decided_nought report i e j calm runs desk below inside decided other =
    let some = decision_cast e (cast_by report i j) decided in
    let known = knows_exactly report i e j some.0 calm runs desk below inside some.1 in
    subst (λ (b : Bool). Contains (cast_by report i j) (Decided e b)) (nought (decision_of e (heard_at_desk report i desk) j) some.0 known other) some.1

-- Once a running node has decided in the lanes of all running nodes, its desk wants no more lanes: either it knows that these have
-- decided 1, or one of them has decided 0.
pub turns : (report : Report) (i e : ℕ) → IsCalm report → is_running report i ≡ true → e < report.config.epochs
    → ((j : ℕ) → is_running report j ≡ true → list_any (is_any_decision e) (cast_by report i j) ≡ true)
    → (list_any (is_no_more e) (cast_by report i report.config.n) ≡ true) ⊎ HasSpentSome report
turns report i e calm runs below decided =
    let desk = desk_of report i runs in
    let accepts : ℕ → Bool = λ m. is_bit true (decision_of e (heard_at_desk report i desk) m) in
    elim (wants_no_more report i e calm.quiet desk below) [
      | inl wants ↦ inl wants
      | inr few ↦
          let left = correct_member report.config.n (ones report.config e (heard_at_desk report i desk)) accepts (is_running report) (omega arith)
          (omega (arith, few, calm.lossless.many)) in
          let cast = decided_nought report i e left.0 calm runs desk below left.1 (decided left.0 left.2) left.3 in
          elim (knows_enough report i e left.0 calm desk left.1 below runs cast) [
            | inl many ↦ absurd (omega (arith, few, many))
            | inr spent ↦ inr spent
          ]
    ]
