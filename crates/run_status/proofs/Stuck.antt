-- Whether lanes have spent their rounds, by the table of what they have done.
use Rattle.std.proofs.Common.{◌≡◌, ℕ, zero, suc, ◌+◌, ◌≤◌, ◌<◌, Bool, true, false, ◌&&◌, ◌||◌, ◌==◌, not, List, length, Contains, refl, sym, ap, ◌∙◌, subst, arith}
use Rattle.std.specs.List.{list_any, range_with_len}
use Rattle.std.specs.Cmp.{both_ways}
use Rattle.std.proofs.lemmas.Bool.{eqb-true, eq-eqb, and_parts, and_from, not-true, not_from_false}
use Rattle.std.proofs.lemmas.List.Elements.{Contains-get_or}
use Rattle.std.proofs.lemmas.List.FromFn.{length-range_with_len, get_or-range_with_len}
use Rattle.hb_base.specs.Limits.{most_nodes, most_epochs}
use Rattle.hb_base.specs.NodeSet.{is_in}
use Rattle.hb_base.specs.Numbers.{Numbers}
use Rattle.hb_wire.specs.declared.vote.Vote.{Vote}
use Rattle.hb_wire.specs.declared.post.Post.{Post}
use Rattle.hb_wire.specs.Votes.{epoch_of}
use Rattle.hb_wire.proofs.VoteLemmas.{vote_takes}
use Rattle.hb_rules.specs.declared.report.Report.{Report}
use Rattle.hb_rules.specs.Claims.{is_any_decision}
use Rattle.hb_rules.specs.Hearing.{own_in}
use Rattle.hb_rules.specs.Report.{works, cast_by, is_last_pick, is_stuck, has_spent_lane}
use Rattle.hb_rules.proofs.Cast.{cast_from}
use Rattle.hb_rules.proofs.Lists.{list_any-from}
use Rattle.run_status.specs.declared.spent.Mark.{Mark}
use Rattle.run_status.specs.declared.spent.Mark.TheVariants.{LastPick, Decision}
use Rattle.run_status.specs.Shown.{shows, is_number}
use Rattle.run_status.specs.Spent.{number_of, mark_of, entry, is_stuck_in, is_stuck_by, has_spent_by, AreMarked}
use Rattle.run_status.proofs.Shows.{cast_shown, same_any, found}
use Rattle.run_status.proofs.Numbered.{makes, IsPlace, post_numbered}

-- ---- numbers below another

in_range : (n e : ℕ) → e < n → Contains (range_with_len 0 n) e
in_range n e below =
    let within : e < length (range_with_len 0 n) = omega (arith, below, length-range_with_len 0 n) in
    let same : 0 + e ≡ e = omega arith in
    subst (λ (k : ℕ). Contains (range_with_len 0 n) k) (get_or-range_with_len 0 n e 0 below ∙ same) (Contains-get_or (range_with_len 0 n) e 0 within)

of_range : (n e : ℕ) → Contains (range_with_len 0 n) e → e < n
of_range n e stands =
    let below : stands.0 < n = omega (arith, stands.1, length-range_with_len 0 n) in
    omega (arith, below, get_or-range_with_len 0 n stands.0 e below, stands.2)

same_below : (p q : ℕ → Bool) (limit s n : ℕ) → s + n ≤ limit → ((k : ℕ) → k < limit → p k ≡ q k)
    → list_any p (range_with_len s n) ≡ list_any q (range_with_len s n)
same_below p q limit s zero below same = refl
same_below p q limit s (suc n) below same =
    ap (λ (b : Bool). b || list_any p (range_with_len (s + 1) n)) (same s (omega (arith, below)))
    ∙ ap (λ (b : Bool). q s || b) (same_below p q limit (s + 1) n (omega (arith, below)) same)

-- ---- one lane

-- a mark stands in the table where the lane has cast a vote that makes it
entry_is : (mark : Mark) (c : Numbers) (posts : List Post) (table : List Bool) (i j e : ℕ) → AreMarked c posts table → IsPlace i j e
    → entry table (number_of mark i j e) ≡ list_any (makes c mark e) (own_in c i j posts)
entry_is mark c posts table i j e are place =
    are.each (number_of mark i j e)
    ∙ same_any (λ (p : Post). is_number (number_of mark i j e) (mark_of c p)) (shows c i j (makes c mark e)) (λ p. post_numbered mark c i j e p place) posts
    ∙ sym (cast_shown c i j (makes c mark e) posts)

-- votes that are cast are of epochs within the limit
cast_epoch : (c : Numbers) (i j : ℕ) (posts : List Post) (vote : Vote) → Contains (own_in c i j posts) vote → epoch_of vote < most_epochs
cast_epoch c i j posts vote stands =
    let source = cast_from c i j posts vote stands in
    (vote_takes c.n c.version source.0.bytes vote source.2.is).fits.epoch

-- whether a vote picks in the last round of an epoch in which nothing is decided
abbrev stuck_by_vote : Numbers → List Vote → Vote → Bool
stuck_by_vote c own vote = is_last_pick c vote && not (list_any (is_any_decision (epoch_of vote)) own)

pub stuck_is : (c : Numbers) (posts : List Post) (table : List Bool) (i j : ℕ) → AreMarked c posts table → i < most_nodes → j < most_nodes
    → is_stuck_by table i j ≡ is_stuck c (own_in c i j posts)
unfolding is_stuck_by
stuck_is c posts table i j are node lane = both_ways (is_stuck_by table i j) (is_stuck c (own_in c i j posts)) shown stands
  where
    at : (e : ℕ) → e < most_epochs → IsPlace i j e
    at e below = record { node = node; lane = lane; epoch = below }

    shown : is_stuck_by table i j ≡ true → is_stuck c (own_in c i j posts) ≡ true
    shown h =
        let some = found (is_stuck_in table i j) (range_with_len 0 most_epochs) h in
        let e = some.element in
        let place : IsPlace i j e = at e (of_range most_epochs e some.stands) in
        let parts = and_parts (entry table (number_of LastPick i j e)) (not (entry table (number_of Decision i j e))) some.passing in
        let pick = found (makes c LastPick e) (own_in c i j posts) (sym (entry_is LastPick c posts table i j e are place) ∙ parts.0) in
        let last = and_parts (is_last_pick c pick.element) (epoch_of pick.element == e) pick.passing in
        let epoch : epoch_of pick.element ≡ e = eqb-true (epoch_of pick.element) e last.1 in
        let none : list_any (is_any_decision (epoch_of pick.element)) (own_in c i j posts) ≡ false =
        ap (λ (d : ℕ). list_any (is_any_decision d) (own_in c i j posts)) epoch
        ∙ sym (entry_is Decision c posts table i j e are place)
        ∙ not-true (entry table (number_of Decision i j e)) parts.1
        in
        list_any-from (stuck_by_vote c (own_in c i j posts)) (own_in c i j posts) pick.element pick.stands
        (and_from (is_last_pick c pick.element) (not (list_any (is_any_decision (epoch_of pick.element)) (own_in c i j posts))) last.0
        (not_from_false (list_any (is_any_decision (epoch_of pick.element)) (own_in c i j posts)) none))

    stands : is_stuck c (own_in c i j posts) ≡ true → is_stuck_by table i j ≡ true
    stands h =
        let some = found (stuck_by_vote c (own_in c i j posts)) (own_in c i j posts) h in
        let vote = some.element in
        let e = epoch_of vote in
        let below : e < most_epochs = cast_epoch c i j posts vote some.stands in
        let place : IsPlace i j e = at e below in
        let parts = and_parts (is_last_pick c vote) (not (list_any (is_any_decision e) (own_in c i j posts))) some.passing in
        let picked : list_any (makes c LastPick e) (own_in c i j posts) ≡ true =
        list_any-from (makes c LastPick e) (own_in c i j posts) vote some.stands
        (and_from (is_last_pick c vote) (epoch_of vote == e) parts.0 (eq-eqb (epoch_of vote) e refl)) in
        let none : entry table (number_of Decision i j e) ≡ false =
        entry_is Decision c posts table i j e are place ∙ not-true (list_any (is_any_decision e) (own_in c i j posts)) parts.1 in
        list_any-from (is_stuck_in table i j) (range_with_len 0 most_epochs) e (in_range most_epochs e below)
        (and_from (entry table (number_of LastPick i j e)) (not (entry table (number_of Decision i j e)))
        (entry_is LastPick c posts table i j e are place ∙ picked) (not_from_false (entry table (number_of Decision i j e)) none))

-- ---- all lanes

spent_is : (report : Report) (table : List Bool) (i : ℕ) → AreMarked report.config report.history.items table → report.config.n ≤ most_nodes
    → i < report.config.n → has_spent_by report table i ≡ has_spent_lane report i
spent_is report table i are few below =
    ap (λ (b : Bool). not (is_in report.config.liars i) && b)
    (same_below (λ (j : ℕ). works report.ends.items i j && is_stuck_by table i j)
    (λ (j : ℕ). works report.ends.items i j && is_stuck report.config (cast_by report i j)) report.config.n 0 report.config.n (omega arith)
    (λ j lane. ap (λ (b : Bool). works report.ends.items i j && b)
    (stuck_is report.config report.history.items table i j are (omega (arith, few, below)) (omega (arith, few, lane)))))

pub any_spent_is : (report : Report) (table : List Bool) → AreMarked report.config report.history.items table → report.config.n ≤ most_nodes
    → list_any (has_spent_by report table) (range_with_len 0 report.config.n) ≡ list_any (has_spent_lane report) (range_with_len 0 report.config.n)
any_spent_is report table are few =
    same_below (has_spent_by report table) (has_spent_lane report) report.config.n 0 report.config.n (omega arith)
    (λ i below. spent_is report table i are few below)
