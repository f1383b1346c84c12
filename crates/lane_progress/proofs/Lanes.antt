-- The theorem on lanes in calm runs.
use Rattle.std.proofs.Common.{◌≡◌, ℕ, ◌<◌, ◌≤◌, ◌&&◌, ◌==◌, not, nat_lt, true, false, inl, inr, List, [], Contains, Some, sym, ap, ◌∙◌, subst, arith, slice_get}
use Rattle.std.specs.List.{filter_map}
use Rattle.std.proofs.lemmas.Bool.{and_parts, and_from, or_right, or_cases, eqb-true, ltb-true, false_from_ne_true, not_from_false}
use Rattle.hb_base.specs.NodeSet.{is_in}
use Rattle.hb_base.specs.Numbers.{Numbers}
use Rattle.hb_wire.specs.Addresses.{goes_to, is_at_home, reaches}
use Rattle.hb_wire.specs.declared.post.Post.{Post}
use Rattle.hb_wire.specs.declared.vote.To.{To}
use Rattle.hb_wire.specs.declared.vote.To.TheVariants.{Book, Home, All, Node}
use Rattle.hb_wire.specs.declared.vote.Vote.{Vote}
use Rattle.net_script.specs.Delivery.{shape_of}
use Rattle.hb_rules.specs.declared.report.Report.{Report}
use Rattle.hb_rules.specs.Hearing.{Hearing, name_at, hearing_of, heard_in, heard_of}
use Rattle.hb_rules.specs.Owing.{lane_slots, slots_of}
use Rattle.hb_rules.specs.Report.{submitted_at, is_drop, works, is_running, cast_by, IsExpected}
use Rattle.hb_rules.specs.Slots.{Slot, IsIdle}
use Rattle.hb_rules.specs.Terms.{terms_of}
use Rattle.hb_rules.proofs.Cast.{IsHeard, heard_is}
use Rattle.hb_rules.proofs.DeskParts.{slots_of-lane}
use Rattle.hb_rules.proofs.Lists.{IsSource, contains_at, source_of, Contains-filter_map}
use Rattle.hb_rules.proofs.Received.{got_heard}
use Rattle.hb_rules.proofs.Reports.{running_correct, running_works}
use Rattle.lane_progress.specs.Calm.{IsCalm}
use Rattle.lane_progress.specs.Lanes.{IsQuietLane, received_by, heard_at}
use Rattle.lane_progress.proofs.Ends.{HasEnd, has_end}

-- ---- who posts for a lane

-- only a lane of the same number, or the desk
poster_few : (n : ℕ) (to : To) (from poster i j : ℕ) → j < n → goes_to n to from poster i j ≡ true → poster ≤ n
poster_few n Book from poster i j lane goes = absurd (cc (goes))
poster_few n Home from poster i j lane goes =
    let home = (and_parts (i == from) (is_at_home n poster j) goes).1 in
    elim (or_cases (nat_lt poster n && (j == n)) ((poster == n) && nat_lt j n) home) [
      | inl up ↦ let below = ltb-true poster n (and_parts (nat_lt poster n) (j == n) up).0 in omega (arith, below)
      | inr down ↦ let is = eqb-true poster n (and_parts (poster == n) (nat_lt j n) down).0 in omega (arith, is)
    ]
poster_few n All from poster i j lane goes = let is = eqb-true j poster goes in omega (arith, is)
poster_few n (Node target) from poster i j lane goes = let is = eqb-true j poster (and_parts (j == poster) (i == target) goes).0 in omega (arith, is)

-- ---- what running nodes post is received

-- a post of a running node that a lane of a running node hears is one that the lane has received
received_there : (report : Report) (i j k : ℕ) (post : Post) (h : Hearing) → IsCalm report → j < report.config.n → is_running report i ≡ true
    → is_running report post.from ≡ true → slice_get report.history.items k ≡ Some post → IsHeard report.config i j post h
    → Contains (received_by report i j) k
received_there report i j k post h calm lane here there stands heard =
    subst (λ (got : List ℕ). Contains got k) (sym end.received)
    ((calm.quiet.settled end.at.end end.at.stands end.at.fate).received k
    (subst (λ (a : ℕ). IsExpected report a end.at.end.actor k) (sym end.at.node)
    (subst (λ (x : ℕ). IsExpected report i x k) (sym end.at.actor) expected)))
  where
    c : Numbers
    c = report.config

    end : HasEnd report i j
    end = has_end report i j here (omega (arith, lane))

    expected : IsExpected report i j k
    expected = record {
      post = post;
      stands = stands;
      comes = and_from (reaches c.n post i j) (not (is_drop (shape_of report.script.links.items post.from i k))) heard.reached
          (not_from_false (is_drop (shape_of report.script.links.items post.from i k)) (calm.lossless.whole i k post here there stands));
      sent = or_right (is_in c.liars post.from) (works report.ends.items post.from post.actor)
          (running_works report post.from post.actor there (poster_few c.n post.to post.from post.actor i j lane heard.reached));
    }

hears_there : (report : Report) (j i : ℕ) (h : Hearing) → IsCalm report → j < report.config.n → is_running report i ≡ true
    → is_running report h.from ≡ true → Contains (heard_in report.config i j report.history.items) h → Contains (heard_at report j i) h
hears_there report j i h calm lane here there stands =
    Contains-filter_map (hearing_of c i j) (filter_map (slice_get posts) (received_by report i j)) source.element h
    (Contains-filter_map (slice_get posts) (received_by report i j) at.0 source.element received at.1) source.gives
  where
    c : Numbers
    c = report.config

    posts : List Post
    posts = report.history.items

    source : IsSource (hearing_of report.config i j) report.history.items h
    source = source_of (hearing_of report.config i j) report.history.items h stands

    heard : IsHeard report.config i j source.element h
    heard = heard_is report.config i j source.element h source.gives

    from : source.element.from ≡ h.from
    from =
        let other : (j == report.config.n) ≡ false =
        false_from_ne_true (j == report.config.n) (λ same. omega (arith, eqb-true j report.config.n same, lane)) in
        let named : name_at report.config j source.element ≡ h.from = ap (λ (g : Hearing). g.from) heard.hearing_is in
        rw other at named

    at : (k : ℕ) × (slice_get report.history.items k ≡ Some source.element)
    at = contains_at report.history.items source.element source.stands

    received : Contains (received_by report i j) at.0
    received = received_there report i j at.0 source.element h calm lane here (ap (is_running report) from ∙ there) at.1 heard

-- ---- nothing is owed

-- what is owed at an end is owed by the actor that it names
pub owed_at_end : (report : Report) (got : List ℕ) (a y i x : ℕ) → a ≡ i → y ≡ x
    → IsIdle (slots_of report.config (submitted_at report.script a) a y) (cast_by report a y) (heard_of report.config a y report.history.items got)
    → IsIdle (slots_of report.config (submitted_at report.script i) i x) (cast_by report i x) (heard_of report.config i x report.history.items got)
owed_at_end report got a y i x node actor idle =
    subst (λ (z : ℕ). IsIdle (slots_of report.config (submitted_at report.script i) i z) (cast_by report i z)
    (heard_of report.config i z report.history.items got)) actor
    (subst (λ (b : ℕ). IsIdle (slots_of report.config (submitted_at report.script b) b y) (cast_by report b y)
    (heard_of report.config b y report.history.items got)) node idle)

idle_there : (report : Report) (j i : ℕ) → IsCalm report → j < report.config.n → is_running report i ≡ true
    → IsIdle (lane_slots report.config i j) (cast_by report i j) (heard_at report j i)
idle_there report j i calm lane here =
    let end = has_end report i j here (omega (arith, lane)) in
    let owed = owed_at_end report end.at.end.got.items end.at.end.node end.at.end.actor i j end.at.node end.at.actor
    (calm.quiet.settled end.at.end end.at.stands end.at.fate).idle in
    subst (λ (slots : List (Slot Vote Hearing)). IsIdle slots (cast_by report i j) (heard_at report j i))
    (slots_of-lane report.config (submitted_at report.script i) i j lane)
    (subst (λ (got : List ℕ). IsIdle (slots_of report.config (submitted_at report.script i) i j) (cast_by report i j)
    (heard_of report.config i j report.history.items got)) (sym end.received) owed)

pub lane_quiet : (report : Report) (j : ℕ) → IsCalm report → j < report.config.n
    → IsQuietLane report.config j report.history.items (is_running report) (heard_at report j)
lane_quiet report j calm lane = record {
  sound = calm.lossless.sound;
  legal = calm.lossless.legal;
  apart = calm.lossless.apart;
  lane = lane;
  many = calm.lossless.many;
  correct = running_correct report;
  posted = λ i h here stands. (got_heard (terms_of report.config [] i j) report.history.items (received_by report i j)).each h stands;
  hears = λ i h here there stands. hears_there report j i h calm lane here there stands;
  idle = λ i here. idle_there report j i calm lane here;
}
