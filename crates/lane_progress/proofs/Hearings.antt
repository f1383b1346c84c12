-- What a lane of a running node hears in a calm run: all that running nodes post for it.
use Rattle.std.proofs.Common.{◌≡◌, ℕ, ◌+◌, ◌-◌, ◌<◌, ◌≤◌, ◌&&◌, ◌==◌, Bool, true, false, List, Contains, Some, refl, ap, ◌∙◌, arith}
use Rattle.std.proofs.lemmas.Bool.{and_parts, and_from, eqb-true, eq-eqb, false_from_ne_true}
use Rattle.hb_base.specs.Counting.{count_nodes}
use Rattle.hb_base.specs.Numbers.{Numbers}
use Rattle.hb_base.specs.NodeSet.{is_in}
use Rattle.hb_wire.specs.Addresses.{goes_to, reaches}
use Rattle.hb_wire.specs.Votes.{address_of}
use Rattle.hb_wire.specs.declared.post.Post.{Post}
use Rattle.hb_wire.specs.declared.vote.To.{To}
use Rattle.hb_wire.specs.declared.vote.To.TheVariants.{All}
use Rattle.hb_wire.specs.declared.vote.Vote.{Vote}
use Rattle.hb_wire.proofs.VoteLemmas.{vote_again}
use Rattle.hb_rules.specs.Hearing.{Hearing, hearing, heeds, is_within, spelled, name_at, hearing_at, hearing_of, heard_in, heard_by, own_in, said_in}
use Rattle.hb_rules.proofs.Addressed.{legal_addressed}
use Rattle.hb_rules.proofs.Among.{Grows, any_stands, heard_by-grows}
use Rattle.hb_rules.proofs.Cast.{IsCastBy, cast_from}
use Rattle.hb_rules.proofs.Counts.{count_nodes-mono, count_nodes-and}
use Rattle.hb_rules.proofs.Lists.{list_any-from, Contains-filter_map}
use Rattle.hb_rules.proofs.Said.{heard-said}
use Rattle.lane_progress.specs.Lanes.{IsQuietLane}

-- ---- one vote

-- a post that reaches a lane, whose vote the lane takes heed of
post_heard : (c : Numbers) (i j a y : ℕ) (post : Post) (vote : Vote) → j < c.n → IsCastBy c a y post vote → reaches c.n post i j ≡ true
    → heeds c.n i j a y vote ≡ true → is_within c vote ≡ true → hearing_of c i j post ≡ Some (hearing a vote)
post_heard c i j a y post vote lane cast reached heeded within =
    ap (hearing_at c i j post) cast.is ∙ rw all (ap (λ (b : ℕ). Some (hearing b vote)) named)
  where
    heeds_it : heeds c.n i j post.from post.actor vote ≡ true
    heeds_it = ap (λ (b : ℕ). heeds c.n i j b post.actor vote) cast.from ∙ ap (λ (z : ℕ). heeds c.n i j a z vote) cast.actor ∙ heeded

    all : (reaches c.n post i j && (heeds c.n i j post.from post.actor vote && is_within c vote)) ≡ true
    all = and_from (reaches c.n post i j) (heeds c.n i j post.from post.actor vote && is_within c vote) reached
        (and_from (heeds c.n i j post.from post.actor vote) (is_within c vote) heeds_it within)

    named : name_at c j post ≡ a
    named = let other : (j == c.n) ≡ false = false_from_ne_true (j == c.n) (λ same. omega (arith, eqb-true j c.n same, lane)) in rw other cast.from

-- What actor y of a running node a has cast, lane j of a running node i has heard, where the vote's address leads there, the lane
-- takes heed of it, and the run has its epoch and round.
pub cast_heard : (c : Numbers) (j : ℕ) (history : List Post) (runs : ℕ → Bool) (heard : ℕ → List Hearing) (i a y : ℕ) (vote : Vote)
    → IsQuietLane c j history runs heard → runs i ≡ true → runs a ≡ true → goes_to c.n (address_of vote) a y i j ≡ true
    → heeds c.n i j a y vote ≡ true → is_within c vote ≡ true → Contains (own_in c a y history) vote → Contains (heard i) (hearing a vote)
cast_heard c j history runs heard i a y vote quiet here there goes heeded within stands =
    quiet.hears i (hearing a vote) here there
    (Contains-filter_map (hearing_of c i j) history source.0 (hearing a vote) source.1
    (post_heard c i j a y source.0 vote quiet.lane source.2 reached heeded within))
  where
    source : (post : Post) × Contains history post × IsCastBy c a y post vote
    source = cast_from c a y history vote stands

    address : source.0.to ≡ address_of vote
    address =
        let right = (legal_addressed c history quiet.legal).each source.0 source.1 (ap (is_in c.liars) source.2.from ∙ (quiet.correct a there).honest) in
        let again : spelled c source.0 ≡ Some right.vote = vote_again c.n c.version source.0.bytes right.vote right.spells in
        let is : spelled c source.0 ≡ Some vote = source.2.is in
        let same : right.vote ≡ vote = cc (again, is) in
        right.address ∙ ap address_of same

    reached : reaches c.n source.0 i j ≡ true
    reached =
        ap (λ (to : To). goes_to c.n to source.0.from source.0.actor i j) address
        ∙ ap (λ (b : ℕ). goes_to c.n (address_of vote) b source.0.actor i j) source.2.from
        ∙ ap (λ (z : ℕ). goes_to c.n (address_of vote) a z i j) source.2.actor ∙ goes

-- ---- votes for all lanes of a number

-- a vote that goes to all lanes of the number, that these take heed of, and that the run has
pub record IsForLanes (c : Numbers) (j : ℕ) (vote : Vote) : Type 0 where
  pub all : address_of vote ≡ All
  pub heeded : (i a y : ℕ) → heeds c.n i j a y vote ≡ true
  pub within : is_within c vote ≡ true

-- a test that only such votes pass
pub record AreForLanes (c : Numbers) (j : ℕ) (test : Vote → Bool) : Type 0 where
  pub each : (vote : Vote) → test vote ≡ true → IsForLanes c j vote

-- what the lane of a running node has said to all, that of a running node has heard
pub said_heard : (c : Numbers) (j : ℕ) (history : List Post) (runs : ℕ → Bool) (heard : ℕ → List Hearing) (i a : ℕ) (test : Vote → Bool)
    → IsQuietLane c j history runs heard → runs i ≡ true → runs a ≡ true → AreForLanes c j test → said_in c j history a test ≡ true
    → heard_by (heard i) a test ≡ true
said_heard c j history runs heard i a test quiet here there meant said =
    let found = any_stands test (own_in c a j history) said in
    let of = meant.each found.0 found.2 in
    let goes : goes_to c.n (address_of found.0) a j i j ≡ true = ap (λ (to : To). goes_to c.n to a j i j) of.all ∙ eq-eqb j j refl in
    list_any-from (λ g. (g.from == a) && test g.vote) (heard i) (hearing a found.0)
    (cast_heard c j history runs heard i a j found.0 quiet here there goes (of.heeded i a j) of.within found.1)
    (and_from (a == a) (test found.0) (eq-eqb a a refl) found.2)

-- of the nodes that have said something to all, at most f have not been heard
pub many_heard : (c : Numbers) (j : ℕ) (history : List Post) (runs : ℕ → Bool) (heard : ℕ → List Hearing) (i : ℕ) (test : ℕ → Vote → Bool)
    → IsQuietLane c j history runs heard → runs i ≡ true → ((a : ℕ) → AreForLanes c j (test a))
    → count_nodes c.n (λ a. said_in c j history a (test a)) ≤ count_nodes c.n (λ a. heard_by (heard i) a (test a)) + c.f
many_heard c j history runs heard i test quiet here meant =
    let said : ℕ → Bool = λ a. said_in c j history a (test a) in
    let both : count_nodes c.n (λ a. said a && runs a) ≤ count_nodes c.n (λ a. heard_by (heard i) a (test a)) =
    count_nodes-mono c.n (λ a. said a && runs a) (λ a. heard_by (heard i) a (test a)) (λ a below h.
    let parts = and_parts (said a) (runs a) h in said_heard c j history runs heard i a (test a) quiet here parts.1 (meant a) parts.0) in
    omega (arith, both, count_nodes-and c.n said runs, quiet.many, quiet.sound.enough)

-- what all running nodes have said to all, n - f nodes have been heard to say
pub all_heard : (c : Numbers) (j : ℕ) (history : List Post) (runs : ℕ → Bool) (heard : ℕ → List Hearing) (i : ℕ) (test : ℕ → Vote → Bool)
    → IsQuietLane c j history runs heard → runs i ≡ true → ((a : ℕ) → AreForLanes c j (test a))
    → ((a : ℕ) → runs a ≡ true → said_in c j history a (test a) ≡ true)
    → c.n - c.f ≤ count_nodes c.n (λ a. heard_by (heard i) a (test a))
all_heard c j history runs heard i test quiet here meant said =
    let more : count_nodes c.n runs ≤ count_nodes c.n (λ a. heard_by (heard i) a (test a)) =
    count_nodes-mono c.n runs (λ a. heard_by (heard i) a (test a))
    (λ a below there. said_heard c j history runs heard i a (test a) quiet here there (meant a) (said a there)) in
    omega (arith, more, quiet.many)

-- what the lane of a running node has heard, lanes have said
pub heard_posted : (c : Numbers) (j : ℕ) (history : List Post) (runs : ℕ → Bool) (heard : ℕ → List Hearing) (i : ℕ)
    → IsQuietLane c j history runs heard → runs i ≡ true → Grows (heard_by (heard i)) (heard_by (heard_in c i j history))
heard_posted c j history runs heard i quiet here =
    heard_by-grows (heard i) (heard_in c i j history) (record { each = λ h stands. quiet.posted i h here stands })

pub heard_said : (c : Numbers) (j : ℕ) (history : List Post) (runs : ℕ → Bool) (heard : ℕ → List Hearing) (i : ℕ)
    → IsQuietLane c j history runs heard → runs i ≡ true → Grows (heard_by (heard i)) (said_in c j history)
heard_said c j history runs heard i quiet here =
    let among = heard_posted c j history runs heard i quiet here in
    let said = heard-said c i j history (legal_addressed c history quiet.legal) quiet.lane (quiet.correct i here).honest in
    record { grows = λ a test away h. said.grows a test away (among.grows a test away h) }
