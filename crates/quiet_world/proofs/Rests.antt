-- What actors of running nodes have cast, since they owe nothing. In a quiet run a desk has proposed for each open epoch, and wants
-- no more lanes once it knows that n - f of them decided 1. In a calm run a lane has begun an agreement where it has delivered, and
-- where its desk wants no more lanes.
use Rattle.std.proofs.Common.{◌≡◌, ℕ, ◌<◌, ◌-◌, ◌⊎◌, ◌&&◌, ◌==◌, nat_lt, nat_le, Bool, true, false, inl, inr, List, Contains, None, refl, ap, subst, arith}
use Rattle.std.specs.List.{list_any}
use Rattle.std.proofs.lemmas.Bool.{and_from, or_right, eq-eqb, lt-ltb, leb-false}
use Rattle.hb_base.specs.Numbers.{Numbers}
use Rattle.hb_wire.specs.Addresses.{is_at_home}
use Rattle.hb_wire.specs.declared.vote.Vote.{Vote}
use Rattle.hb_wire.specs.declared.vote.Vote.TheVariants.{Est, Propose, NoMore}
use Rattle.hb_rules.specs.declared.agreement_slot.AgreementSlot.TheVariants.{Begin}
use Rattle.hb_rules.specs.declared.report.Report.{Report}
use Rattle.hb_rules.specs.AgreementRows.{choice_of}
use Rattle.hb_rules.specs.Claims.{is_any_delivery, is_any_proposal, is_no_more}
use Rattle.hb_rules.specs.Desk.{is_open}
use Rattle.hb_rules.specs.DeskRows.{proposal_slot, no_more_slot, desk_rows}
use Rattle.hb_rules.specs.Hearing.{Hearing, hearing, heard_by, heard_of}
use Rattle.hb_rules.specs.Marks.{any_est, has}
use Rattle.hb_rules.specs.Owing.{desk_slots}
use Rattle.hb_rules.specs.Pool.{pool_value}
use Rattle.hb_rules.specs.Report.{submitted_at, is_running, cast_by, IsQuiet}
use Rattle.hb_rules.specs.Slots.{Slot, of_epoch, when, IsIdle}
use Rattle.hb_rules.proofs.DeskParts.{ones, slots_of-desk}
use Rattle.hb_rules.proofs.Lists.{list_any-from}
use Rattle.hb_rules.proofs.Passing.{IsSettledAt, settled_parts, settled_idle}
use Rattle.hb_rules.proofs.Reports.{IsAtWork, works_end, running_works}
use Rattle.hb_rules.proofs.Rows.{idle-epoch}
use Rattle.aba_world.proofs.Votes.{no_more-is, found_vote}
use Rattle.lane_progress.specs.Calm.{IsCalm}
use Rattle.lane_progress.specs.Lanes.{heard_at}
use Rattle.lane_progress.proofs.Hearings.{cast_heard}
use Rattle.lane_progress.proofs.Lanes.{lane_quiet, owed_at_end}
use Rattle.aba_progress.proofs.Running.{QuietAgreement}
use Rattle.aba_progress.proofs.Filled.{filled}

-- ---- ends of running nodes

pub desk_of : (report : Report) (i : ℕ) → is_running report i ≡ true → IsAtWork report.ends.items i report.config.n
desk_of report i runs = works_end report.ends.items i report.config.n (running_works report i report.config.n runs (omega arith))

-- what the desk of a node has heard, by its end
abbrev pub heard_at_desk : (report : Report) (i : ℕ) → IsAtWork report.ends.items i report.config.n → List Hearing
heard_at_desk report i desk = heard_of report.config i report.config.n report.history.items desk.end.got.items

pub desk_idle : (report : Report) (i : ℕ) → IsQuiet report → (desk : IsAtWork report.ends.items i report.config.n)
    → IsIdle (desk_slots report.config (submitted_at report.script i)) (cast_by report i report.config.n) (heard_at_desk report i desk)
desk_idle report i quiet desk =
    subst (λ (slots : List (Slot Vote Hearing)). IsIdle slots (cast_by report i report.config.n) (heard_at_desk report i desk))
    (slots_of-desk report.config (submitted_at report.script i) i)
    (owed_at_end report desk.end.got.items desk.end.node desk.end.actor i report.config.n desk.node desk.actor
    (quiet.settled desk.end desk.stands desk.fate).idle)

-- ---- desks

-- the slots of a desk in an epoch owe nothing
record IsDeskSettled (c : Numbers) (submitted : List (List ℕ)) (e : ℕ) (own : List Vote) (heard : List Hearing) : Type 0 where
  proposal : IsSettledAt (proposal_slot c submitted e) own heard
  no_more : IsSettledAt (no_more_slot c e) own heard

desk_settled : (c : Numbers) (submitted : List (List ℕ)) (e : ℕ) (own : List Vote) (heard : List Hearing) → IsIdle (desk_slots c submitted) own heard
    → e < c.epochs → IsDeskSettled c submitted e own heard
desk_settled c submitted e own heard idle below =
    let settled = settled_idle (of_epoch e (desk_rows c submitted)) own heard (idle-epoch c.epochs (desk_rows c submitted) own heard idle e below) in
    record { proposal = settled.0; no_more = settled.1.0 }

none_when : {A : Type 0} (b : Bool) (x : A) → when b x ≡ None → b ≡ false
none_when true x h = absurd (cc (h))
none_when false x h = refl

proposal_cast : (c : Numbers) (submitted : List (List ℕ)) (e : ℕ) (own : List Vote) (heard : List Hearing)
    → IsSettledAt (proposal_slot c submitted e) own heard → is_open e own ≡ true → list_any (is_any_proposal e) own ≡ true
unfolding proposal_slot
proposal_cast c submitted e own heard settled opened =
    settled_parts (proposal_slot c submitted e) own heard settled (list_any (is_any_proposal e) own ≡ true) (λ cast. cast)
    (λ none. absurd (cc (opened, none_when (is_open e own) (Propose e (pool_value c submitted e own)) none)))

-- a desk wants no more lanes, or it knows of fewer than n - f that decided 1
no_more_cast : (c : Numbers) (e : ℕ) (own : List Vote) (heard : List Hearing) → IsSettledAt (no_more_slot c e) own heard
    → (list_any (is_no_more e) own ≡ true) ⊎ (ones c e heard < c.n - c.f)
unfolding no_more_slot
no_more_cast c e own heard settled =
    settled_parts (no_more_slot c e) own heard settled ((list_any (is_no_more e) own ≡ true) ⊎ (ones c e heard < c.n - c.f)) (λ cast. inl cast)
    (λ none. inr (leb-false (c.n - c.f) (ones c e heard) (none_when (nat_le (c.n - c.f) (ones c e heard)) (NoMore e) none)))

pub has_proposed : (report : Report) (i e : ℕ) → IsQuiet report → is_running report i ≡ true → e < report.config.epochs
    → is_open e (cast_by report i report.config.n) ≡ true → list_any (is_any_proposal e) (cast_by report i report.config.n) ≡ true
has_proposed report i e quiet runs below opened =
    let desk = desk_of report i runs in
    let submitted = submitted_at report.script i in
    let own = cast_by report i report.config.n in
    let heard = heard_at_desk report i desk in
    proposal_cast report.config submitted e own heard (desk_settled report.config submitted e own heard (desk_idle report i quiet desk) below).proposal
    opened

pub wants_no_more : (report : Report) (i e : ℕ) → IsQuiet report → (desk : IsAtWork report.ends.items i report.config.n) → e < report.config.epochs
    → (list_any (is_no_more e) (cast_by report i report.config.n) ≡ true)
    ⊎ (ones report.config e (heard_at_desk report i desk) < report.config.n - report.config.f)
wants_no_more report i e quiet desk below =
    let submitted = submitted_at report.script i in
    let own = cast_by report i report.config.n in
    let heard = heard_at_desk report i desk in
    no_more_cast report.config e own heard (desk_settled report.config submitted e own heard (desk_idle report i quiet desk) below).no_more

-- ---- lanes

-- the agreement of a lane in an epoch
abbrev agreement_at : (report : Report) (j e : ℕ) → IsCalm report → j < report.config.n → e < report.config.epochs → QuietAgreement
agreement_at report j e calm inside below = record {
  c = report.config;
  j = j;
  e = e;
  history = report.history.items;
  runs = is_running report;
  heard = heard_at report j;
  lane = lane_quiet report j calm inside;
  epoch = below;
}

-- where a lane has delivered it has begun
pub begun_with_one : (report : Report) (i j e : ℕ) → IsCalm report → is_running report i ≡ true → j < report.config.n → e < report.config.epochs
    → list_any (is_any_delivery e) (cast_by report i j) ≡ true → has e (any_est 0) (cast_by report i j) ≡ true
unfolding choice_of
begun_with_one report i j e calm runs inside below delivered =
    filled (agreement_at report j e calm inside below) i (Begin true) (Est e 0 true) runs tt (ap (λ (b : Bool). when b (Est e 0 true)) delivered)

near_lane : (n j : ℕ) → j < n → is_at_home n n j ≡ true
near_lane n j inside =
    or_right (nat_lt n n && (j == n)) ((n == n) && nat_lt j n) (and_from (n == n) (nat_lt j n) (eq-eqb n n refl) (lt-ltb j n inside))

-- that a desk wants no more lanes, its lanes have heard
no_more_heard : (report : Report) (i j e : ℕ) → IsCalm report → is_running report i ≡ true → j < report.config.n → e < report.config.epochs
    → Contains (cast_by report i report.config.n) (NoMore e) → Contains (heard_at report j i) (hearing i (NoMore e))
no_more_heard report i j e calm runs inside below cast =
    let n : ℕ = report.config.n in
    cast_heard report.config j report.history.items (is_running report) (heard_at report j) i i n (NoMore e) (lane_quiet report j calm inside) runs runs
    (and_from (i == i) (is_at_home n n j) (eq-eqb i i refl) (near_lane n j inside))
    (and_from (nat_lt j n) ((i == i) && (n == n)) (lt-ltb j n inside) (and_from (i == i) (n == n) (eq-eqb i i refl) (eq-eqb n n refl)))
    (and_from (nat_lt e report.config.epochs) true (lt-ltb e report.config.epochs below) refl) cast

-- where a desk wants no more lanes all its lanes have begun
pub begun_with_nought : (report : Report) (i j e : ℕ) → IsCalm report → is_running report i ≡ true → j < report.config.n → e < report.config.epochs
    → list_any (is_no_more e) (cast_by report i report.config.n) ≡ true → has e (any_est 0) (cast_by report i j) ≡ true
unfolding choice_of
begun_with_nought report i j e calm runs inside below unwanted =
    let own : List Vote = cast_by report i report.config.n in
    let heard : List Hearing = heard_at report j i in
    let told : Contains heard (hearing i (NoMore e)) =
    no_more_heard report i j e calm runs inside below (found_vote own (is_no_more e) (NoMore e) (no_more-is e) unwanted) in
    let passes : Hearing → Bool = λ g. (g.from == i) && is_no_more e g.vote in
    let said : heard_by heard i (is_no_more e) ≡ true =
    list_any-from passes heard (hearing i (NoMore e)) told (and_from (i == i) (e == e) (eq-eqb i i refl) (eq-eqb e e refl)) in
    filled (agreement_at report j e calm inside below) i (Begin false) (Est e 0 false) runs tt (ap (λ (b : Bool). when b (Est e 0 false)) said)
