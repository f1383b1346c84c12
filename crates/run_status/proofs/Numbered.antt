-- The numbers of marks: each is of one mark, node, lane and epoch.
use Rattle.std.proofs.Common.{◌≡◌, ℕ, ◌+◌, ◌-◌, ◌*◌, ◌<◌, Bool, true, false, ◌&&◌, ◌==◌, nat_lt, if◌then◌else◌, Option, None, Some, refl, sym, ap, ◌∙◌, arith}
use Rattle.std.specs.Cmp.{both_ways}
use Rattle.std.specs.Option.{option_and_then, is_some}
use Rattle.std.proofs.lemmas.Bool.{eqb-true, eq-eqb, ne_eqb, ltb-true, lt-ltb, and_parts, and_from, and_right, false_from_ne_true}
use Rattle.std.proofs.lemmas.Bool.{both_ways as both}
use Rattle.hb_base.specs.Limits.{most_nodes, most_epochs}
use Rattle.hb_base.specs.Numbers.{Numbers}
use Rattle.hb_wire.specs.declared.vote.Vote.{Vote}
use Rattle.hb_wire.specs.declared.vote.Vote.TheVariants.{Pick, Decided}
use Rattle.hb_wire.specs.declared.post.Post.{Post}
use Rattle.hb_wire.specs.Votes.{epoch_of}
use Rattle.hb_wire.proofs.VoteLemmas.{vote_takes}
use Rattle.hb_rules.specs.Claims.{is_any_decision}
use Rattle.hb_rules.specs.Hearing.{spelled, is_by}
use Rattle.hb_rules.specs.Report.{is_last_pick}
use Rattle.run_status.specs.declared.spent.Mark.{Mark}
use Rattle.run_status.specs.declared.spent.Mark.TheVariants.{LastPick, Decision}
use Rattle.run_status.specs.Shown.{passes, shows, is_number}
use Rattle.run_status.specs.Spent.{place_of, number_of, number_in, mark_of}

-- whether a vote makes a mark in an epoch
abbrev pub makes : Numbers → Mark → ℕ → Vote → Bool
makes c LastPick e vote = is_last_pick c vote && (epoch_of vote == e)
makes c Decision e vote = is_any_decision e vote

-- a lane of a node, and an epoch, within the limits
pub record IsPlace (i j e : ℕ) : Type 0 where
  pub node : i < most_nodes
  pub lane : j < most_nodes
  pub epoch : e < most_epochs

place_is : (a y d i j e : ℕ) → IsPlace a y d → IsPlace i j e → (place_of a y d == place_of i j e) ≡ (((a == i) && (y == j)) && (d == e))
place_is a y d i j e p q =
    both_ways (place_of a y d == place_of i j e) (((a == i) && (y == j)) && (d == e)) apart together
  where
    apart : (place_of a y d == place_of i j e) ≡ true → (((a == i) && (y == j)) && (d == e)) ≡ true
    apart h =
        let same : (a * 16 + y) * 32 + d ≡ (i * 16 + j) * 32 + e = eqb-true (place_of a y d) (place_of i j e) h in
        let node : a ≡ i = omega (arith, same, p.lane, p.epoch, q.lane, q.epoch) in
        let lane : y ≡ j = omega (arith, same, node, p.epoch, q.epoch) in
        let epoch : d ≡ e = omega (arith, same, node, lane) in
        and_from ((a == i) && (y == j)) (d == e) (and_from (a == i) (y == j) (eq-eqb a i node) (eq-eqb y j lane)) (eq-eqb d e epoch)

    together : (((a == i) && (y == j)) && (d == e)) ≡ true → (place_of a y d == place_of i j e) ≡ true
    together h =
        let outer = and_parts ((a == i) && (y == j)) (d == e) h in
        let inner = and_parts (a == i) (y == j) outer.0 in
        let node : a ≡ i = eqb-true a i inner.0 in
        let lane : y ≡ j = eqb-true y j inner.1 in
        let epoch : d ≡ e = eqb-true d e outer.1 in
        eq-eqb (place_of a y d) (place_of i j e) (omega (arith, node, lane, epoch))

-- the numbers of decisions are above those of last picks
below_decisions : (a y d i j e : ℕ) → IsPlace a y d → IsPlace i j e → (place_of a y d == 8192 + place_of i j e) ≡ false
below_decisions a y d i j e p q = ne_eqb (place_of a y d) (8192 + place_of i j e) (λ same. omega (arith, same, p.node, p.lane, p.epoch))

above_picks : (a y d i j e : ℕ) → IsPlace a y d → IsPlace i j e → (8192 + place_of a y d == place_of i j e) ≡ false
above_picks a y d i j e p q = ne_eqb (8192 + place_of a y d) (place_of i j e) (λ same. omega (arith, same, q.node, q.lane, q.epoch))

decision_is : (a y d i j e : ℕ) → IsPlace a y d → IsPlace i j e
    → (8192 + place_of a y d == 8192 + place_of i j e) ≡ (((a == i) && (y == j)) && (d == e))
decision_is a y d i j e p q =
    both_ways (8192 + place_of a y d == 8192 + place_of i j e) (place_of a y d == place_of i j e)
    (λ h. eq-eqb (place_of a y d) (place_of i j e) (omega (arith, eqb-true (8192 + place_of a y d) (8192 + place_of i j e) h)))
    (λ h. eq-eqb (8192 + place_of a y d) (8192 + place_of i j e) (omega (arith, eqb-true (place_of a y d) (place_of i j e) h)))
    ∙ place_is a y d i j e p q

none_both : (b : Bool) → false ≡ (b && false)
none_both b = sym (and_right b false refl)

some_where : (b : Bool) (bit : Bool) → is_some (if b then Some bit else None) ≡ b
some_where true bit = refl
some_where false bit = refl

-- a vote has the number of a mark where it makes the mark, at the same place
numbered : (mark : Mark) (c : Numbers) (a y i j e : ℕ) (vote : Vote) → IsPlace a y (epoch_of vote) → IsPlace i j e
    → is_number (number_of mark i j e) (number_in c a y vote) ≡ (((a == i) && (y == j)) && makes c mark e vote)
numbered LastPick c a y i j e (Pick d r vals) p q = by (r == c.rounds - 1)
  where
    by : (last : Bool)
        → is_number (place_of i j e) (if last then Some (place_of a y d) else None) ≡ (((a == i) && (y == j)) && (last && (d == e)))
    by true = place_is a y d i j e p q
    by false = none_both ((a == i) && (y == j))
numbered LastPick c a y i j e (Decided d b) p q = above_picks a y d i j e p q ∙ none_both ((a == i) && (y == j))
numbered LastPick c a y i j e _ p q = none_both ((a == i) && (y == j))
numbered Decision c a y i j e (Pick d r vals) p q = by (r == c.rounds - 1) ∙ none_both ((a == i) && (y == j))
  where
    by : (last : Bool) → is_number (8192 + place_of i j e) (if last then Some (place_of a y d) else None) ≡ false
    by true = below_decisions a y d i j e p q
    by false = refl
numbered Decision c a y i j e (Decided d b) p q =
    decision_is a y d i j e p q ∙ ap (λ (x : Bool). ((a == i) && (y == j)) && x) (sym (some_where (d == e) b))
numbered Decision c a y i j e _ p q = none_both ((a == i) && (y == j))

no_number : (mark : Mark) (i j e : ℕ) (b : Bool) → is_number (number_of mark i j e) (if b then None else None) ≡ false
no_number mark i j e true = refl
no_number mark i j e false = refl

no_pass : (test : Vote → Bool) (b : Bool) → false ≡ passes test (if b then None else None)
no_pass test true = refl
no_pass test false = refl

pass_if : (test : Vote → Bool) (b : Bool) (vote : Vote) → (b && test vote) ≡ passes test (if b then Some vote else None)
pass_if test true vote = refl
pass_if test false vote = refl

-- a post of a lane within the limits is of such a node and lane
is_low : (i j : ℕ) (post : Post) → i < most_nodes → j < most_nodes → is_by i j post ≡ true
    → (nat_lt post.from most_nodes && nat_lt post.actor most_nodes) ≡ true
is_low i j post node lane mine =
    let parts = and_parts (post.from == i) (post.actor == j) mine in
    let from : post.from ≡ i = eqb-true post.from i parts.0 in
    let actor : post.actor ≡ j = eqb-true post.actor j parts.1 in
    and_from (nat_lt post.from most_nodes) (nat_lt post.actor most_nodes)
    (lt-ltb post.from most_nodes (omega (arith, from, node)))
    (lt-ltb post.actor most_nodes (omega (arith, actor, lane)))

-- a post has the number of a mark where it shows that the lane makes the mark
pub post_numbered : (mark : Mark) (c : Numbers) (i j e : ℕ) (post : Post) → IsPlace i j e
    → is_number (number_of mark i j e) (mark_of c post) ≡ shows c i j (makes c mark e) post
post_numbered mark c i j e post q = by (spelled c post) refl
  where
    with_vote : (vote : Vote) → epoch_of vote < most_epochs → (b : Bool) → (nat_lt post.from most_nodes && nat_lt post.actor most_nodes) ≡ b
        → is_number (number_of mark i j e) (if b then number_in c post.from post.actor vote else None)
        ≡ passes (makes c mark e) (if is_by i j post then Some vote else None)
    with_vote vote epoch true low =
        let parts = and_parts (nat_lt post.from most_nodes) (nat_lt post.actor most_nodes) low in
        numbered mark c post.from post.actor i j e vote
        (record { node = ltb-true post.from most_nodes parts.0; lane = ltb-true post.actor most_nodes parts.1; epoch = epoch }) q
        ∙ pass_if (makes c mark e) (is_by i j post) vote
    with_vote vote epoch false high =
        let other : is_by i j post ≡ false =
        false_from_ne_true (is_by i j post)
        (λ mine. both (nat_lt post.from most_nodes && nat_lt post.actor most_nodes) high (is_low i j post q.node q.lane mine)) in
        sym (ap (λ (b : Bool). passes (makes c mark e) (if b then Some vote else None)) other)

    by : (o : Option Vote) → spelled c post ≡ o
        → is_number (number_of mark i j e)
        (if nat_lt post.from most_nodes && nat_lt post.actor most_nodes then option_and_then (number_in c post.from post.actor) o else None)
        ≡ passes (makes c mark e) (if is_by i j post then o else None)
    by None is = no_number mark i j e (nat_lt post.from most_nodes && nat_lt post.actor most_nodes) ∙ no_pass (makes c mark e) (is_by i j post)
    by (Some vote) is =
        with_vote vote (vote_takes c.n c.version post.bytes vote is).fits.epoch (nat_lt post.from most_nodes && nat_lt post.actor most_nodes) refl
