-- The theorem on quiet runs.
use Rattle.std.proofs.Common.{◌≡◌, ℕ, zero, suc, ◌+◌, ◌<◌, ◌≤◌, true, List, [], Contains, length, sym, subst, arith, length-append}
use Rattle.std.specs.List.{list_any, filter_map, flat_map, range_with_len}
use Rattle.hb_base.specs.Numbers.{AreSound}
use Rattle.hb_wire.specs.declared.vote.Vote.{Vote}
use Rattle.hb_wire.specs.declared.vote.Vote.TheVariants.{Closed}
use Rattle.hb_rules.specs.declared.report.Report.{Report}
use Rattle.hb_rules.specs.Claims.{is_any_closing, closed_with}
use Rattle.hb_rules.specs.History.{IsLegal}
use Rattle.hb_rules.specs.Ledger.{ledger, IsComplete}
use Rattle.hb_rules.specs.Report.{is_running, submitted_at, cast_by, IsQuiet}
use Rattle.hb_rules.specs.Same.{firsts}
use Rattle.hb_rules.proofs.Among.{any_stands}
use Rattle.hb_rules.proofs.DeskVotes.{any_closing-is, closing-gives}
use Rattle.hb_rules.proofs.Firsts.{firsts_have}
use Rattle.hb_rules.proofs.Lists.{Contains-filter_map}
use Rattle.hb_rules.proofs.Reports.{running_correct}
use Rattle.quiet_world.specs.Completed.{HasEachCompleted}
use Rattle.quiet_world.proofs.Closings.{each_closed}
use Rattle.quiet_world.proofs.Knowing.{knows}
use Rattle.quiet_world.proofs.Within.{decided_within}
use Rattle.quiet_world.proofs.Rests.{desk_of, heard_at_desk, desk_idle}

-- ---- each epoch is closed

closed_at : (report : Report) (i e : ℕ) → IsLegal report.config report.history.items → IsQuiet report → is_running report i ≡ true
    → e < report.config.epochs → IsComplete report.config report.history.items i e
    → list_any (is_any_closing e) (cast_by report i report.config.n) ≡ true
closed_at report i e legal quiet runs below complete =
    let desk = desk_of report i runs in
    each_closed report.config (submitted_at report.script i) (cast_by report i report.config.n) (heard_at_desk report i desk)
    (desk_idle report i quiet desk) e below
    (λ d j few lane. knows report i d j legal quiet runs desk (omega (arith, few, below)) lane (complete d j few lane))

-- ---- the ledger

-- as many lists as epochs that have one
count_lists : {X : Type 0} (A : ℕ → List X) (s k m : ℕ) → m ≤ k → ((d : ℕ) → d < m → 1 ≤ length (A (s + d)))
    → m ≤ length (flat_map A (range_with_len s k))
count_lists A s k zero few some = omega arith
count_lists A s zero (suc m) few some = absurd (omega arith)
count_lists {X} A s (suc k) (suc m) few some =
    let first : s + 0 ≡ s = omega arith in
    let here : 1 ≤ length (A s) = subst (λ (d : ℕ). 1 ≤ length (A d)) first (some 0 (omega arith)) in
    let rest : m ≤ length (flat_map A (range_with_len (s + 1) k)) =
    count_lists A (s + 1) k m (omega arith) (λ d below.
    let next : s + suc d ≡ s + 1 + d = omega arith in subst (λ (t : ℕ). 1 ≤ length (A t)) next (some (suc d) (omega arith))) in
    omega (arith, here, rest, length-append (A s) (flat_map A (range_with_len (s + 1) k)))

-- an epoch that was closed has a list
has_list : (e : ℕ) (own : List Vote) → list_any (is_any_closing e) own ≡ true → 1 ≤ length (filter_map (closed_with e) (firsts own))
has_list e own closed =
    let found = any_stands (is_any_closing e) own closed in
    let is = any_closing-is e found.0 found.2 in
    let cast : Contains own (Closed e is.0) = subst (λ (v : Vote). Contains own v) is.1 found.1 in
    let list = Contains-filter_map (closed_with e) (firsts own) (Closed e is.0) is.0 (firsts_have own [] (Closed e is.0) cast) (closing-gives e is.0) in
    omega (arith, list.1)

pub each_completed : (report : Report) → AreSound report.config → IsLegal report.config report.history.items → IsQuiet report → HasEachCompleted report
each_completed report sound legal quiet i e runs complete =
    let own : List Vote = cast_by report i report.config.n in
    let correct = running_correct report i runs in
    let below : e < report.config.epochs =
    decided_within report.config i 0 e report.history.items legal correct.honest (omega (arith, correct.known)) (complete e 0 (omega arith) (omega (arith, correct.known))).decided in
    let lists : suc e ≤ length (ledger report.config report.history.items i) =
    count_lists (λ (d : ℕ). filter_map (closed_with d) (firsts own)) 0 32 (suc e) (omega (arith, sound.epochs.1)) (λ d inside.
    let at : 0 + d ≡ d = omega arith in
    subst (λ (t : ℕ). 1 ≤ length (filter_map (closed_with t) (firsts own))) (sym at)
    (has_list d own (closed_at report i d legal quiet runs (omega arith) (λ k j few lane. complete k j (omega arith) lane)))) in
    omega (arith, lists)
