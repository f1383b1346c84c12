-- What the desk of a running node has heard of its own lanes in a quiet run: each vote that they have posted home, and nothing
-- else.
use Rattle.std.proofs.Common.{◌≡◌, ℕ, ◌<◌, ◌&&◌, ◌||◌, ◌==◌, not, nat_lt, Bool, true, List, Contains, Some, refl, sym, ap, ◌∙◌, subst, arith, slice_get}
use Rattle.std.specs.List.{filter_map}
use Rattle.std.proofs.lemmas.Bool.{and_from, or_left, or_right, eq-eqb, lt-ltb}
use Rattle.hb_base.specs.NodeSet.{is_in}
use Rattle.hb_base.specs.Numbers.{Numbers}
use Rattle.hb_wire.specs.Addresses.{goes_to, is_at_home, reaches}
use Rattle.hb_wire.specs.Votes.{address_of}
use Rattle.hb_wire.specs.declared.post.Post.{Post}
use Rattle.hb_wire.specs.declared.vote.To.{To}
use Rattle.hb_wire.specs.declared.vote.To.TheVariants.{Home}
use Rattle.hb_wire.specs.declared.vote.Vote.{Vote}
use Rattle.hb_wire.specs.declared.vote.Vote.TheVariants.{Delivered, Decided}
use Rattle.hb_wire.proofs.VoteLemmas.{vote_again}
use Rattle.net_script.specs.Delivery.{shape_of}
use Rattle.hb_rules.specs.declared.report.Report.{Report}
use Rattle.hb_rules.specs.Hearing.{hearing, heeds, is_within, name_at, spelled, hearing_at, hearing_of, heard_of, own_in}
use Rattle.hb_rules.specs.History.{IsLegal}
use Rattle.hb_rules.specs.Report.{is_drop, works, is_running, cast_by, IsExpected, IsQuiet}
use Rattle.hb_rules.proofs.Addressed.{legal_addressed}
use Rattle.hb_rules.proofs.Cast.{IsCastBy, cast_from, cast_stands}
use Rattle.hb_rules.proofs.DeskVotes.{IsOfOwnLane, lane_cast}
use Rattle.hb_rules.proofs.Lists.{contains_at, at_contains, source_of, Contains-filter_map}
use Rattle.hb_rules.proofs.Reports.{running_correct, running_works, IsAtWork}

-- ---- votes for the desk

-- a vote that a lane posts home, and that the desk takes heed of
pub record IsForDesk (c : Numbers) (vote : Vote) : Type 0 where
  pub home : address_of vote ≡ Home
  pub heeded : (i j : ℕ) → j < c.n → heeds c.n i c.n i j vote ≡ true
  pub within : is_within c vote ≡ true

from_lane : (n i j : ℕ) → j < n → ((n == n) && ((i == i) && nat_lt j n)) ≡ true
from_lane n i j below = and_from (n == n) ((i == i) && nat_lt j n) (eq-eqb n n refl) (and_from (i == i) (nat_lt j n) (eq-eqb i i refl) (lt-ltb j n below))

of_run : (c : Numbers) (e : ℕ) → e < c.epochs → (nat_lt e c.epochs && true) ≡ true
of_run c e below = and_from (nat_lt e c.epochs) true (lt-ltb e c.epochs below) refl

pub IsForDesk-decision : (c : Numbers) (e : ℕ) (bit : Bool) → e < c.epochs → IsForDesk c (Decided e bit)
IsForDesk-decision c e bit below = record { home = refl; heeded = λ i j lane. from_lane c.n i j lane; within = of_run c e below }

pub IsForDesk-delivery : (c : Numbers) (e : ℕ) (value : List ℕ) → e < c.epochs → IsForDesk c (Delivered e value)
IsForDesk-delivery c e value below = record { home = refl; heeded = λ i j lane. from_lane c.n i j lane; within = of_run c e below }

-- ---- their posts

-- a post that goes home from a lane reaches the desk
reaches_desk : (n i j : ℕ) (post : Post) → j < n → post.to ≡ Home → post.from ≡ i → post.actor ≡ j → reaches n post i n ≡ true
reaches_desk n i j post lane home from actor =
    ap (λ (to : To). goes_to n to post.from post.actor i n) home
    ∙ ap (λ (a : ℕ). (i == a) && is_at_home n post.actor n) from ∙ ap (λ (y : ℕ). (i == i) && is_at_home n y n) actor
    ∙ and_from (i == i) (is_at_home n j n) (eq-eqb i i refl)
    (or_left (nat_lt j n && (n == n)) ((j == n) && nat_lt n n) (and_from (nat_lt j n) (n == n) (lt-ltb j n lane) (eq-eqb n n refl)))

-- the desk hears such a vote of it
hears_home : (c : Numbers) (i j : ℕ) (post : Post) (vote : Vote) → j < c.n → IsCastBy c i j post vote → reaches c.n post i c.n ≡ true → IsForDesk c vote
    → hearing_of c i c.n post ≡ Some (hearing j vote)
hears_home c i j post vote lane cast reached for_desk =
    ap (hearing_at c i c.n post) cast.is ∙ rw all (ap (λ (a : ℕ). Some (hearing a vote)) named)
  where
    heeded : heeds c.n i c.n post.from post.actor vote ≡ true
    heeded = ap (λ (a : ℕ). heeds c.n i c.n a post.actor vote) cast.from ∙ ap (λ (y : ℕ). heeds c.n i c.n i y vote) cast.actor ∙ for_desk.heeded i j lane

    all : (reaches c.n post i c.n && (heeds c.n i c.n post.from post.actor vote && is_within c vote)) ≡ true
    all = and_from (reaches c.n post i c.n) (heeds c.n i c.n post.from post.actor vote && is_within c vote) reached
        (and_from (heeds c.n i c.n post.from post.actor vote) (is_within c vote) heeded for_desk.within)

    named : name_at c c.n post ≡ j
    named = let same : (c.n == c.n) ≡ true = eq-eqb c.n c.n refl in rw same cast.actor

-- within a node nothing is dropped
undropped : (report : Report) (post : Post) (i k : ℕ) → post.from ≡ i → not (is_drop (shape_of report.script.links.items post.from i k)) ≡ true
undropped report post i k from = let same : (post.from == i) ≡ true = eq-eqb post.from i from in rw same refl

-- ---- what the desk has heard

-- a vote that a lane of a running node has posted home, its desk has heard
pub heard_home : (report : Report) (i j : ℕ) (vote : Vote) → IsLegal report.config report.history.items → IsQuiet report → is_running report i ≡ true
    → j < report.config.n → (desk : IsAtWork report.ends.items i report.config.n) → IsForDesk report.config vote → Contains (cast_by report i j) vote
    → Contains (heard_of report.config i report.config.n report.history.items desk.end.got.items) (hearing j vote)
heard_home report i j vote legal quiet runs lane desk for_desk stands =
    Contains-filter_map (hearing_of c i c.n) (filter_map (slice_get posts) desk.end.got.items) post (hearing j vote)
    (Contains-filter_map (slice_get posts) desk.end.got.items at.0 post received at.1) (hears_home c i j post vote lane cast reached for_desk)
  where
    c : Numbers
    c = report.config

    posts : List Post
    posts = report.history.items

    source : (post : Post) × Contains report.history.items post × IsCastBy report.config i j post vote
    source = cast_from report.config i j report.history.items vote stands

    post : Post
    post = source.0

    cast : IsCastBy report.config i j source.0 vote
    cast = source.2

    at : (k : ℕ) × (slice_get report.history.items k ≡ Some source.0)
    at = contains_at report.history.items source.0 source.1

    home : source.0.to ≡ Home
    home =
        let right = (legal_addressed report.config report.history.items legal).each source.0 source.1
        (ap (is_in report.config.liars) source.2.from ∙ (running_correct report i runs).honest) in
        let again : spelled report.config source.0 ≡ Some right.vote =
        vote_again report.config.n report.config.version source.0.bytes right.vote right.spells in
        let is : spelled report.config source.0 ≡ Some vote = source.2.is in
        let same : right.vote ≡ vote = cc (again, is) in
        right.address ∙ ap address_of same ∙ for_desk.home

    reached : reaches report.config.n source.0 i report.config.n ≡ true
    reached = reaches_desk report.config.n i j source.0 lane home source.2.from source.2.actor

    sent : (is_in report.config.liars source.0.from || works report.ends.items source.0.from source.0.actor) ≡ true
    sent = or_right (is_in report.config.liars source.0.from) (works report.ends.items source.0.from source.0.actor)
        (ap (λ (a : ℕ). works report.ends.items a source.0.actor) source.2.from ∙ ap (λ (y : ℕ). works report.ends.items i y) source.2.actor
        ∙ running_works report i j runs (omega arith))

    expected : IsExpected report i report.config.n at.0
    expected = record {
      post = source.0;
      stands = at.1;
      comes = and_from (reaches report.config.n source.0 i report.config.n) (not (is_drop (shape_of report.script.links.items source.0.from i at.0)))
          reached (undropped report source.0 i at.0 source.2.from);
      sent = sent;
    }

    received : Contains desk.end.got.items at.0
    received = (quiet.settled desk.end desk.stands desk.fate).received at.0
        (subst (λ (a : ℕ). IsExpected report a desk.end.actor at.0) (sym desk.node)
        (subst (λ (y : ℕ). IsExpected report i y at.0) (sym desk.actor) expected))

-- what it has heard of a lane, the lane has cast
pub heard_cast_home : (c : Numbers) (i j : ℕ) (vote : Vote) (posts : List Post) (got : List ℕ) → IsOfOwnLane c.n vote
    → Contains (heard_of c i c.n posts got) (hearing j vote) → Contains (own_in c i j posts) vote
heard_cast_home c i j vote posts got of_lane stands =
    let picked : List Post = filter_map (slice_get posts) got in
    let of = lane_cast c i j vote picked of_lane stands in
    let source = cast_from c i j picked vote of.cast in
    let number = source_of (slice_get posts) got source.0 source.1 in
    cast_stands c i j posts source.0 vote (at_contains posts number.element source.0 number.gives) source.2
