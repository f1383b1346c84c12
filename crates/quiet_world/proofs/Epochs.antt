-- The theorem on epochs in calm runs: each is closed at all running nodes, or a lane has spent its rounds.
use Rattle.std.proofs.Common.{◌≡◌, ℕ, zero, suc, ◌<◌, ◌≤◌, ◌⊎◌, ◌==◌, Bool, true, false, inl, inr, List, Contains, refl, sym, subst, arith}
use Rattle.std.specs.List.{list_any}
use Rattle.std.proofs.lemmas.Bool.{cases_eq, eqb-true}
use Rattle.hb_wire.specs.declared.vote.Vote.{Vote}
use Rattle.hb_wire.specs.declared.vote.Vote.TheVariants.{Delivered, Decided, Propose}
use Rattle.hb_rules.specs.declared.report.Report.{Report}
use Rattle.hb_rules.specs.Claims.{is_decision, is_any_delivery, is_any_proposal, is_no_more, is_any_closing}
use Rattle.hb_rules.specs.Desk.{is_open}
use Rattle.hb_rules.specs.Ledger.{HasFinished}
use Rattle.hb_rules.specs.Marks.{any_decision}
use Rattle.hb_rules.specs.Report.{is_running, submitted_at, cast_by}
use Rattle.hb_rules.proofs.Among.{any_stands}
use Rattle.hb_rules.proofs.DeskVotes.{decision-is}
use Rattle.hb_rules.proofs.Lists.{list_any-from}
use Rattle.hb_rules.proofs.Reports.{running_correct}
use Rattle.aba_world.proofs.Votes.{found_vote}
use Rattle.lane_progress.specs.Calm.{IsCalm}
use Rattle.aba_progress.specs.RoundsEnd.{EachHas}
use Rattle.rbc_progress.proofs.Theorems.{senders_are_delivered}
use Rattle.quiet_world.specs.Epochs.{HasSpentSome, EpochsEnd}
use Rattle.quiet_world.proofs.Closings.{closed_now}
use Rattle.quiet_world.proofs.Knowing.{delivery-marked, knows}
use Rattle.quiet_world.proofs.Rests.{desk_of, heard_at_desk, desk_idle, has_proposed, begun_with_one, begun_with_nought}
use Rattle.quiet_world.proofs.Turning.{each_or, all_decide, one_delivered, turns}

-- ---- the lanes of running nodes

any_proposal-is : (e : ℕ) (vote : Vote) → is_any_proposal e vote ≡ true → (value : List ℕ) × (vote ≡ Propose e value)
any_proposal-is e (Propose d bytes) h = by (d == e) refl h
  where
    by : (t : Bool) → (d == e) ≡ t → is_any_proposal e (Propose d bytes) ≡ true → (value : List ℕ) × (Propose d bytes ≡ Propose e value)
    by true same h = (bytes, let epoch : d ≡ e = eqb-true d e same in cc (epoch))
    by false other h = absurd (let none : is_any_proposal e (Propose d bytes) ≡ false = rw other refl in cc (none, h))
any_proposal-is e vote h = absurd (cc (h))

-- what the desk of a running node has proposed in an open epoch, every running node has delivered
sent_delivered : (report : Report) (j e i : ℕ) → IsCalm report → e < report.config.epochs → is_running report j ≡ true
    → is_open e (cast_by report j report.config.n) ≡ true → is_running report i ≡ true → list_any (is_any_delivery e) (cast_by report i j) ≡ true
sent_delivered report j e i calm below runs opened run =
    let own = cast_by report j report.config.n in
    let found = any_stands (is_any_proposal e) own (has_proposed report j e calm.quiet runs below opened) in
    let is = any_proposal-is e found.0 found.2 in
    let cast : Contains own (Propose e is.0) = subst (λ (v : Vote). Contains own v) is.1 found.1 in
    list_any-from (is_any_delivery e) (cast_by report i j) (Delivered e is.0) ((senders_are_delivered report calm).all j e i is.0 runs run cast)
    (delivery-marked e is.0)

-- the epoch is open at every running node
abbrev IsOpenToAll : Report → ℕ → Type 0
IsOpenToAll report e = (i : ℕ) → is_running report i ≡ true → is_open e (cast_by report i report.config.n) ≡ true

running_lanes : (report : Report) (e : ℕ) → IsCalm report → e < report.config.epochs → IsOpenToAll report e
    → ((j : ℕ) → j < report.config.n → is_running report j ≡ true → EachHas report j e any_decision) ⊎ HasSpentSome report
running_lanes report e calm below opened =
    each_or report.config.n (is_running report) (λ j. EachHas report j e any_decision) (HasSpentSome report)
    (λ j inside runs. all_decide report j e calm inside below
    (λ i run. begun_with_one report i j e calm run inside below (sent_delivered report j e i calm below runs (opened j runs) run)))

-- ---- all lanes

all_want_no_more : (report : Report) (e : ℕ) → IsCalm report → e < report.config.epochs → IsOpenToAll report e
    → ((i : ℕ) → i < report.config.n → is_running report i ≡ true → list_any (is_no_more e) (cast_by report i report.config.n) ≡ true)
    ⊎ HasSpentSome report
all_want_no_more report e calm below opened = elim (running_lanes report e calm below opened) [
  | inl decided ↦
      each_or report.config.n (is_running report) (λ i. list_any (is_no_more e) (cast_by report i report.config.n) ≡ true) (HasSpentSome report)
      (λ i inside runs. turns report i e calm runs below (λ j run. decided j (running_correct report j run).known run i runs))
  | inr spent ↦ inr spent
]

all_lanes : (report : Report) (e : ℕ) → IsCalm report → e < report.config.epochs → IsOpenToAll report e
    → ((j : ℕ) → j < report.config.n → true ≡ true → EachHas report j e any_decision) ⊎ HasSpentSome report
all_lanes report e calm below opened = elim (all_want_no_more report e calm below opened) [
  | inl unwanted ↦
      each_or report.config.n (λ j. true) (λ j. EachHas report j e any_decision) (HasSpentSome report)
      (λ j inside any. all_decide report j e calm inside below
      (λ i runs. begun_with_nought report i j e calm runs inside below (unwanted i (running_correct report i runs).known runs)))
  | inr spent ↦ inr spent
]

-- ---- one epoch after the other

-- a lane of a running node that has decided has finished
finished : (report : Report) (i j e : ℕ) → IsCalm report → j < report.config.n → is_running report i ≡ true
    → EachHas report j e any_decision → HasFinished e (cast_by report i j)
finished report i j e calm inside runs decided = record {
  decided = decided i runs;
  delivered = λ one.
      one_delivered report j e i i calm inside (running_correct report i runs) runs
      (found_vote (cast_by report i j) (is_decision e true) (Decided e true) (decision-is e true) one);
}

closes : (report : Report) (e : ℕ) → IsCalm report → e < report.config.epochs → IsOpenToAll report e
    → ((i : ℕ) → is_running report i ≡ true → list_any (is_any_closing e) (cast_by report i report.config.n) ≡ true) ⊎ HasSpentSome report
closes report e calm below opened = elim (all_lanes report e calm below opened) [
  | inl decided ↦
      inl (λ i runs.
      let desk = desk_of report i runs in
      closed_now report.config (submitted_at report.script i) (cast_by report i report.config.n) (heard_at_desk report i desk)
      (desk_idle report i calm.quiet desk) e below (opened i runs)
      (λ j inside. knows report i e j calm.lossless.legal calm.quiet runs desk below inside
      (finished report i j e calm inside runs (decided j inside refl))))
  | inr spent ↦ inr spent
]

-- every running node has closed all epochs below this one
abbrev AreClosedBelow : Report → ℕ → Type 0
AreClosedBelow report e = (d i : ℕ) → d < e → is_running report i ≡ true → list_any (is_any_closing d) (cast_by report i report.config.n) ≡ true

opened_by : (report : Report) (e : ℕ) → AreClosedBelow report e → IsOpenToAll report e
opened_by report zero closed i runs = refl
opened_by report (suc e) closed i runs = closed e i (omega arith) runs

closed_below : (report : Report) (e : ℕ) → IsCalm report → e ≤ report.config.epochs → AreClosedBelow report e ⊎ HasSpentSome report
closed_below report zero calm few = inl (λ d i below runs. absurd (omega (arith, below)))
closed_below report (suc e) calm few = elim (closed_below report e calm (omega (arith, few))) [
  | inl before ↦ elim (closes report e calm (omega (arith, few)) (opened_by report e before)) [
    | inl now ↦ inl (λ d i below runs. elim (cases_eq d e) [
      | inl same ↦ subst (λ (k : ℕ). list_any (is_any_closing k) (cast_by report i report.config.n) ≡ true) (sym same) (now i runs)
      | inr other ↦ before d i (omega (arith, below, other)) runs
    ])
    | inr spent ↦ inr spent
  ]
  | inr spent ↦ inr spent
]

pub epochs_end : (report : Report) → IsCalm report → EpochsEnd report
epochs_end report calm = elim (closed_below report report.config.epochs calm (omega arith)) [
  | inl closed ↦ inl (λ i e runs below. closed e i below runs)
  | inr spent ↦ inr spent
]
