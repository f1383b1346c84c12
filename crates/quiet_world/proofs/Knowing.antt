-- What the desk of a running node knows of its lanes in a quiet run.
use Rattle.std.proofs.Common.{◌≡◌, ℕ, ◌<◌, ◌&&◌, ◌==◌, Bool, true, List, Some, Contains, refl, ap, ◌∙◌, subst}
use Rattle.std.specs.List.{list_any}
use Rattle.std.proofs.lemmas.Bool.{and_parts, eqb-true, eq-eqb}
use Rattle.hb_wire.specs.declared.vote.Vote.{Vote}
use Rattle.hb_wire.specs.declared.vote.Vote.TheVariants.{Delivered, Decided}
use Rattle.hb_rules.specs.declared.report.Report.{Report}
use Rattle.hb_rules.specs.Claims.{is_any_decision, is_any_delivery, is_decision}
use Rattle.hb_rules.specs.DeskRows.{decision_of, delivery_of}
use Rattle.hb_rules.specs.Hearing.{Hearing, hearing}
use Rattle.hb_rules.specs.History.{IsLegal}
use Rattle.hb_rules.specs.Ledger.{HasFinished}
use Rattle.hb_rules.specs.Report.{is_running, cast_by, IsQuiet}
use Rattle.hb_rules.proofs.Among.{any_stands}
use Rattle.hb_rules.proofs.DeskSlots.{decision_heard}
use Rattle.hb_rules.proofs.DeskVotes.{decision-is, decision-marked, any_decision-is, any_delivery-is, IsOfOwnLane-decision}
use Rattle.hb_rules.proofs.Lists.{list_any-from}
use Rattle.hb_rules.proofs.Reports.{IsAtWork}
use Rattle.quiet_world.proofs.Hearings.{IsForDesk-decision, IsForDesk-delivery, heard_home, heard_cast_home}
use Rattle.quiet_world.proofs.Closings.{IsKnown, decision_some, delivery_some}
use Rattle.quiet_world.proofs.Rests.{heard_at_desk}

-- ---- a vote that was cast

pub decision_cast : (e : ℕ) (own : List Vote) → list_any (is_any_decision e) own ≡ true → (bit : Bool) × Contains own (Decided e bit)
decision_cast e own decided =
    let found = any_stands (is_any_decision e) own decided in
    let some = any_decision-is e found.0 found.2 in
    (some.0, subst (λ (v : Vote). Contains own v) some.1 found.1)

pub delivery_cast : (e : ℕ) (own : List Vote) → list_any (is_any_delivery e) own ≡ true → (value : List ℕ) × Contains own (Delivered e value)
delivery_cast e own delivered =
    let found = any_stands (is_any_delivery e) own delivered in
    let some = any_delivery-is e found.0 found.2 in
    (some.0, subst (λ (v : Vote). Contains own v) some.1 found.1)

pub delivery-marked : (e : ℕ) (value : List ℕ) → is_any_delivery e (Delivered e value) ≡ true
delivery-marked e value = let same : (e == e) ≡ true = eq-eqb e e refl in rw same refl

-- ---- decisions

-- the first decision of which a desk knows, its lane has cast
pub known_cast : (report : Report) (i e j : ℕ) (bit : Bool) (desk : IsAtWork report.ends.items i report.config.n)
    → decision_of e (heard_at_desk report i desk) j ≡ Some bit → Contains (cast_by report i j) (Decided e bit)
known_cast report i e j bit desk said =
    let heard : List Hearing = heard_at_desk report i desk in
    let passes : Hearing → Bool = λ g. (g.from == j) && is_decision e bit g.vote in
    let hearing_is = any_stands passes heard (decision_heard e j heard bit said) in
    let parts = and_parts (hearing_is.0.from == j) (is_decision e bit hearing_is.0.vote) hearing_is.2 in
    let told : Contains heard (hearing j (Decided e bit)) =
    subst (λ (a : ℕ). Contains heard (hearing a (Decided e bit))) (eqb-true hearing_is.0.from j parts.0)
    (subst (λ (v : Vote). Contains heard (hearing hearing_is.0.from v)) (decision-is e bit hearing_is.0.vote parts.1) hearing_is.1) in
    heard_cast_home report.config i j (Decided e bit) report.history.items desk.end.got.items (IsOfOwnLane-decision report.config.n e bit) told

-- where its lane has decided, it knows of a decision
pub knows_decision : (report : Report) (i e j : ℕ) (bit : Bool) → IsLegal report.config report.history.items → IsQuiet report
    → is_running report i ≡ true → (desk : IsAtWork report.ends.items i report.config.n) → e < report.config.epochs → j < report.config.n
    → Contains (cast_by report i j) (Decided e bit) → (first : Bool) × (decision_of e (heard_at_desk report i desk) j ≡ Some first)
knows_decision report i e j bit legal quiet runs desk below lane cast =
    decision_some e j (heard_at_desk report i desk) bit
    (heard_home report i j (Decided e bit) legal quiet runs lane desk (IsForDesk-decision report.config e bit below) cast)

-- what a lane has finished, the desk of a running node knows
pub knows : (report : Report) (i e j : ℕ) → IsLegal report.config report.history.items → IsQuiet report → is_running report i ≡ true
    → (desk : IsAtWork report.ends.items i report.config.n) → e < report.config.epochs → j < report.config.n
    → HasFinished e (cast_by report i j) → IsKnown e (heard_at_desk report i desk) j
knows report i e j legal quiet runs desk below lane finished = record { bit = first.0; decided = first.1; delivered = delivered }
  where
    first : (bit : Bool) × (decision_of e (heard_at_desk report i desk) j ≡ Some bit)
    first =
        let some = decision_cast e (cast_by report i j) finished.decided in
        knows_decision report i e j some.0 legal quiet runs desk below lane some.1

    delivered : first.0 ≡ true → (value : List ℕ) × (delivery_of e (heard_at_desk report i desk) j ≡ Some value)
    delivered one =
        let cast : Contains (cast_by report i j) (Decided e true) =
        known_cast report i e j true desk (first.1 ∙ ap (λ (b : Bool). Some b) one) in
        let value = delivery_cast e (cast_by report i j)
        (finished.delivered (list_any-from (is_decision e true) (cast_by report i j) (Decided e true) cast (decision-marked e true))) in
        delivery_some e j (heard_at_desk report i desk) value.0
        (heard_home report i j (Delivered e value.0) legal quiet runs lane desk (IsForDesk-delivery report.config e value.0 below) value.1)
