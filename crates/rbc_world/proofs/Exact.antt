-- Claims of posts are the votes that correct nodes have cast: one claim for each place is agreement, and deliveries that
-- were all proposed are validity.
use Rattle.std.proofs.Common.{◌≡◌, ℕ, ◌+◌, ◌*◌, ◌/◌, ◌<◌, true, false, ◌&&◌, ◌==◌, List, [], ◌++◌, Contains, Option, Some, drop, slice_get, refl, sym, ap, ap₂, ◌∙◌, subst, arith, append-nil}
use Rattle.std.specs.Option.{option_and_then}
use Rattle.std.proofs.lemmas.Bool.{eqb-true, eq-eqb, and_parts, and_from}
use Rattle.std.proofs.lemmas.Option.{cond_some, option_and_then_some}
use Rattle.hb_base.specs.Limits.{most_epochs}
use Rattle.hb_base.specs.Numbers.{Numbers}
use Rattle.hb_base.specs.NodeSet.{is_in}
use Rattle.hb_wire.specs.declared.vote.Vote.{Vote}
use Rattle.hb_wire.specs.declared.vote.Vote.TheVariants as votes
use Rattle.hb_wire.specs.declared.post.Post.{Post}
use Rattle.hb_wire.specs.Votes.{kind_of, epoch_of, sized_bytes, Spells}
use Rattle.hb_wire.proofs.VoteLemmas.{vote_takes}
use Rattle.hb_rules.specs.Hearing.{spelled, own_in}
use Rattle.hb_rules.specs.Lanes.{is_correct, posting_lane}
use Rattle.hb_rules.specs.Ledger.{IsCorrect}
use Rattle.rbc_world.specs.declared.claims.Kind.{Kind}
use Rattle.rbc_world.specs.declared.claims.Kind.TheVariants.{Ready, Delivered, Propose}
use Rattle.rbc_world.specs.Agreed.{ReadiesAgree, DeliveriesAgree, DeliveriesAreProposed, IsAgreed}
use Rattle.rbc_world.specs.Claimed.{code_of, lane_of, place_of, body_of, claimed, claim_of, claim_at, entry, AreOne, AreEntries, IsProposedAt, AreLeft, AreNone}
use Rattle.hb_rules.proofs.Cast.{IsCastBy, cast_from, cast_stands}
use Rattle.hb_rules.proofs.LaneVotes.{correct_is, correct_from, of_lane, lane_from}
use Rattle.rbc_world.proofs.Striking.{AreProposed, proposed_from_none, none_from_proposed}
use Rattle.rbc_world.proofs.FirstClaims.{given_stands, entries_one}

-- ---- what a claim is

-- the vote of a post that claims something
record IsVoteOf (c : Numbers) (kind : Kind) (post : Post) (s : ℕ) (body : List ℕ) : Type 0 where
  lane : ℕ
  vote : Vote
  lane_is : lane_of c kind post ≡ Some lane
  spells : spelled c post ≡ Some vote
  known : epoch_of vote < most_epochs
  code : (kind_of vote == code_of kind) ≡ true
  place_is : place_of lane (epoch_of vote) ≡ s
  body_is : body_of vote ≡ body

vote_of : (c : Numbers) (kind : Kind) (post : Post) (s : ℕ) (body : List ℕ) → claim_of c kind post ≡ Some (s, body) → IsVoteOf c kind post s body
vote_of c kind post s body claims =
    option_and_then_some (λ lane. option_and_then (claimed kind lane) (spelled c post)) (lane_of c kind post) (s, body) claims
    (λ lane lane_is inner. option_and_then_some (claimed kind lane) (spelled c post) (s, body) inner
    (λ vote spells made.
    let chosen = cond_some (kind_of vote == code_of kind) (place_of lane (epoch_of vote), body_of vote) (s, body) made in
    let right : Spells c.n c.version post.bytes vote = vote_takes c.n c.version post.bytes vote spells in
    record {
      lane = lane;
      vote = vote;
      lane_is = lane_is;
      spells = spells;
      known = right.fits.epoch;
      code = chosen.0;
      place_is = ap (λ (x : ℕ × List ℕ). x.0) chosen.1;
      body_is = ap (λ (x : ℕ × List ℕ). x.1) chosen.1;
    }))

claim_from : (c : Numbers) (kind : Kind) (post : Post) (lane : ℕ) (vote : Vote) → lane_of c kind post ≡ Some lane → spelled c post ≡ Some vote
    → (kind_of vote == code_of kind) ≡ true → claim_of c kind post ≡ Some (place_of lane (epoch_of vote), body_of vote)
claim_from c kind post lane vote lane_is spells code = rw (lane_is, spells, code) refl

-- ---- lanes and places

-- a post of the desk of a correct node
record IsOfDesk (c : Numbers) (post : Post) (lane : ℕ) : Type 0 where
  correct : IsCorrect c lane
  from : post.from ≡ lane
  actor : post.actor ≡ c.n

of_desk : (c : Numbers) (post : Post) (lane : ℕ) → lane_of c Propose post ≡ Some lane → IsOfDesk c post lane
of_desk c post lane h =
    let chosen = cond_some (is_correct c post.from && (post.actor == c.n)) post.from lane h in
    let parts = and_parts (is_correct c post.from) (post.actor == c.n) chosen.0 in
    record {
      correct = subst (IsCorrect c) chosen.1 (correct_is c post.from parts.0);
      from = chosen.1;
      actor = eqb-true post.actor c.n parts.1;
    }

desk_from : (c : Numbers) (post : Post) (lane : ℕ) → IsCorrect c lane → post.from ≡ lane → post.actor ≡ c.n → lane_of c Propose post ≡ Some lane
desk_from c post lane correct from actor =
    let right : (is_correct c post.from && (post.actor == c.n)) ≡ true =
    and_from (is_correct c post.from) (post.actor == c.n) (ap (is_correct c) from ∙ correct_from c lane correct) (eq-eqb post.actor c.n actor) in
    rw right (ap (λ (x : ℕ). Some x) from)

one_place : (j d k e : ℕ) → d < 32 → e < 32 → j * 32 + d ≡ k * 32 + e → (j ≡ k) × (d ≡ e)
one_place j d k e low also same = (omega arith, omega arith)

lane_of_place : (j e : ℕ) → e < 32 → (j * 32 + e) / 32 ≡ j
lane_of_place j e low = omega arith

-- ---- bodies

length_bytes : (value : List ℕ) → drop 4 (sized_bytes value) ≡ value
length_bytes value = refl

one_value : (value other : List ℕ) → sized_bytes value ++ [] ≡ sized_bytes other ++ [] → value ≡ other
one_value value other same =
    let sized : sized_bytes value ≡ sized_bytes other = sym (append-nil (sized_bytes value)) ∙ same ∙ append-nil (sized_bytes other) in
    sym (length_bytes value) ∙ ap (drop 4) sized ∙ length_bytes other

one_root : (root other : List ℕ) → root ++ [] ≡ other ++ [] → root ≡ other
one_root root other same = sym (append-nil root) ∙ same ∙ append-nil other

ready_is : (vote : Vote) → (kind_of vote == 0x03) ≡ true → (root : List ℕ) × (vote ≡ votes.Ready (epoch_of vote) root)
ready_is (votes.Ready e root) h = (root, refl)
ready_is vote h = absurd (cc (h))

delivered_is : (vote : Vote) → (kind_of vote == 0x04) ≡ true → (value : List ℕ) × (vote ≡ votes.Delivered (epoch_of vote) value)
delivered_is (votes.Delivered e value) h = (value, refl)
delivered_is vote h = absurd (cc (h))

propose_is : (vote : Vote) → (kind_of vote == 0x10) ≡ true → (value : List ℕ) × (vote ≡ votes.Propose (epoch_of vote) value)
propose_is (votes.Propose e value) h = (value, refl)
propose_is vote h = absurd (cc (h))

-- ---- agreement

-- the votes of a kind that lanes cast, by what they say of an epoch
record IsLaneKind (kind : Kind) (make : ℕ → List ℕ → Vote) : Type 0 where
  lane : (c : Numbers) (post : Post) → lane_of c kind post ≡ posting_lane c post
  code : (e : ℕ) (content : List ℕ) → (kind_of (make e content) == code_of kind) ≡ true
  epoch : (e : ℕ) (content : List ℕ) → epoch_of (make e content) ≡ e
  shape : (vote : Vote) → (kind_of vote == code_of kind) ≡ true → (content : List ℕ) × (vote ≡ make (epoch_of vote) content)
  one : (e : ℕ) (content other : List ℕ) → body_of (make e content) ≡ body_of (make e other) → content ≡ other

ready_kind : IsLaneKind Ready votes.Ready
ready_kind = record {
  lane = λ c post. refl;
  code = λ e root. refl;
  epoch = λ e root. refl;
  shape = ready_is;
  one = λ e root other same. one_root root other same;
}

delivered_kind : IsLaneKind Delivered votes.Delivered
delivered_kind = record {
  lane = λ c post. refl;
  code = λ e value. refl;
  epoch = λ e value. refl;
  shape = delivered_is;
  one = λ e value other same. one_value value other same;
}

-- all votes of the kind of correct nodes in one lane and epoch say the same
abbrev AreAlike : Numbers → (ℕ → List ℕ → Vote) → List Post → Type 0
AreAlike c make posts = (j e i m : ℕ) (content other : List ℕ) → j < c.n → IsCorrect c i → IsCorrect c m
    → Contains (own_in c i j posts) (make e content) → Contains (own_in c m j posts) (make e other) → content ≡ other

-- a vote that a correct lane has cast, as a claim
lane_claim : (kind : Kind) (make : ℕ → List ℕ → Vote) → IsLaneKind kind make → (c : Numbers) (j e i : ℕ) (content : List ℕ) (post : Post) → j < c.n
    → IsCorrect c i → IsCastBy c i j post (make e content)
    → claim_of c kind post ≡ Some (place_of j e, body_of (make e content))
lane_claim kind make is c j e i content post lane correct cast =
    claim_from c kind post j (make e content) (is.lane c post ∙ lane_from c post i j correct lane cast.from cast.actor) cast.is (is.code e content)
    ∙ ap (λ (d : ℕ). Some (place_of j d, body_of (make e content))) (is.epoch e content)

alike_from_one : (kind : Kind) (make : ℕ → List ℕ → Vote) → IsLaneKind kind make → (c : Numbers) (posts : List Post) → AreOne c kind posts
    → AreAlike c make posts
alike_from_one kind make is c posts all j e i m content other lane correct also first second =
    let a = cast_from c i j posts (make e content) first in
    let b = cast_from c m j posts (make e other) second in
    is.one e content other
    (all.one a.0 b.0 (place_of j e) (body_of (make e content)) (body_of (make e other)) a.1 b.1
    (lane_claim kind make is c j e i content a.0 lane correct a.2) (lane_claim kind make is c j e m other b.0 lane also b.2))

-- a vote that a correct lane has cast, by a claim
record IsCastIn (c : Numbers) (posts : List Post) (s : ℕ) (make : ℕ → List ℕ → Vote) (body : List ℕ) : Type 0 where
  node : ℕ
  lane : ℕ
  epoch : ℕ
  content : List ℕ
  correct : IsCorrect c node
  inside : lane < c.n
  known : epoch < most_epochs
  place_is : place_of lane epoch ≡ s
  body_is : body_of (make epoch content) ≡ body
  cast : Contains (own_in c node lane posts) (make epoch content)

lane_cast : (kind : Kind) (make : ℕ → List ℕ → Vote) → IsLaneKind kind make → (c : Numbers) (posts : List Post) (post : Post) (s : ℕ) (body : List ℕ)
    → Contains posts post → claim_of c kind post ≡ Some (s, body)
    → IsCastIn c posts s make body
lane_cast kind make is c posts post s body stands claims =
    let said = vote_of c kind post s body claims in
    let own = of_lane c post said.lane (sym (is.lane c post) ∙ said.lane_is) in
    let shape = is.shape said.vote said.code in
    record {
      node = post.from;
      lane = said.lane;
      epoch = epoch_of said.vote;
      content = shape.0;
      correct = own.correct;
      inside = own.inside;
      known = said.known;
      place_is = said.place_is;
      body_is = ap body_of (sym shape.1) ∙ said.body_is;
      cast = cast_stands c post.from said.lane posts post (make (epoch_of said.vote) shape.0) stands
          (record { from = refl; actor = own.actor; is = said.spells ∙ ap (λ (vote : Vote). Some vote) shape.1 });
    }

moved : (c : Numbers) (posts : List Post) (i j k d e : ℕ) (make : ℕ → List ℕ → Vote) (content : List ℕ) → k ≡ j → d ≡ e
    → Contains (own_in c i k posts) (make d content) → Contains (own_in c i j posts) (make e content)
moved c posts i j k d e make content lanes epochs stands = rw (lanes, epochs) at stands

one_from_alike : (kind : Kind) (make : ℕ → List ℕ → Vote) → IsLaneKind kind make → (c : Numbers) (posts : List Post) → AreAlike c make posts
    → AreOne c kind posts
one_from_alike kind make is c posts alike = record {
  one = λ p q s body other first second said also.
      let a = lane_cast kind make is c posts p s body first said in
      let b = lane_cast kind make is c posts q s other second also in
      let same = one_place b.lane b.epoch a.lane a.epoch b.known a.known (b.place_is ∙ sym a.place_is) in
      let contents : a.content ≡ b.content =
      alike a.lane a.epoch a.node b.node a.content b.content a.inside a.correct b.correct a.cast
      (moved c posts b.node a.lane b.lane b.epoch a.epoch make b.content same.0 same.1 b.cast) in
      sym a.body_is ∙ ap₂ (λ (e : ℕ) (content : List ℕ). body_of (make e content)) (sym same.1) contents ∙ b.body_is;
}

pub readies_one : (c : Numbers) (posts : List Post) → ReadiesAgree c posts → AreOne c Ready posts
readies_one c posts agree = one_from_alike Ready votes.Ready ready_kind c posts agree.one

pub deliveries_one : (c : Numbers) (posts : List Post) → DeliveriesAgree c posts → AreOne c Delivered posts
deliveries_one c posts agree = one_from_alike Delivered votes.Delivered delivered_kind c posts agree.one

-- ---- validity

-- a proposal that a correct desk has cast, as a claim
proposed_claim : (c : Numbers) (j e : ℕ) (value : List ℕ) (post : Post) → IsCorrect c j → IsCastBy c j c.n post (votes.Propose e value)
    → claim_of c Propose post ≡ Some (place_of j e, body_of (votes.Propose e value))
proposed_claim c j e value post correct cast =
    claim_from c Propose post j (votes.Propose e value) (desk_from c post j correct cast.from cast.actor) cast.is refl

-- what has the claim of a delivery was proposed
proposed_cast : (c : Numbers) (posts : List Post) (post : Post) (j e : ℕ) (value : List ℕ) → e < most_epochs → Contains posts post
    → claim_of c Propose post ≡ Some (place_of j e, body_of (votes.Delivered e value))
    → Contains (own_in c j c.n posts) (votes.Propose e value)
proposed_cast c posts post j e value low stands claims =
    let said = vote_of c Propose post (place_of j e) (body_of (votes.Delivered e value)) claims in
    let own = of_desk c post said.lane said.lane_is in
    let shape = propose_is said.vote said.code in
    let same = one_place said.lane (epoch_of said.vote) j e said.known low said.place_is in
    let values : shape.0 ≡ value = one_value shape.0 value (ap body_of (sym shape.1) ∙ said.body_is) in
    let is : spelled c post ≡ Some (votes.Propose e value) =
    said.spells ∙ ap (λ (vote : Vote). Some vote) shape.1
    ∙ ap₂ (λ (d : ℕ) (v : List ℕ). Some (votes.Propose d v)) same.1 values in
    cast_stands c j c.n posts post (votes.Propose e value) stands (record { from = own.from ∙ same.0; actor = own.actor; is = is })

pub validity_from_table : (c : Numbers) (posts : List Post) (table : List (Option ℕ)) → AreEntries c Delivered posts posts table → AreProposed c posts table
    → DeliveriesAreProposed c posts
validity_from_table c posts table entries proposed = record { proposed = proposed_by }
  where
    proposed_by : (j e i : ℕ) (value : List ℕ) → IsCorrect c j → IsCorrect c i → Contains (own_in c i j posts) (votes.Delivered e value)
        → Contains (own_in c j c.n posts) (votes.Propose e value)
    proposed_by j e i value sender correct stands =
        let source = cast_from c i j posts (votes.Delivered e value) stands in
        let low : e < most_epochs = (vote_takes c.n c.version source.0.bytes (votes.Delivered e value) source.2.is).fits.epoch in
        let found = entries.each source.0 (place_of j e) (body_of (votes.Delivered e value)) source.1
        (lane_claim Delivered votes.Delivered delivered_kind c j e i value source.0 sender.known correct source.2) in
        let honest : is_in c.liars ((j * 32 + e) / 32) ≡ false = ap (is_in c.liars) (lane_of_place j e low) ∙ sender.honest in
        let at = proposed.each (place_of j e) found.number honest found.is in
        proposed_cast c posts at.post j e value low at.stands (at.same ∙ found.claims)

pub table_from_validity : (c : Numbers) (posts : List Post) (table : List (Option ℕ)) → AreEntries c Delivered posts posts table
    → DeliveriesAreProposed c posts → AreProposed c posts table
table_from_validity c posts table entries validity = record { each = each }
  where
    at_post : (s number : ℕ) (body : List ℕ) → is_in c.liars (s / 32) ≡ false → claim_at c Delivered posts number ≡ Some (s, body) → (post : Post)
        → Contains posts post → claim_of c Delivered post ≡ Some (s, body) → IsProposedAt c posts number
    at_post s number body honest given post stands claims =
        let own = lane_cast Delivered votes.Delivered delivered_kind c posts post s body stands claims in
        let lane_is : s / 32 ≡ own.lane = ap (λ (t : ℕ). t / 32) (sym own.place_is) ∙ lane_of_place own.lane own.epoch own.known in
        let sender : IsCorrect c own.lane = record { known = own.inside; honest = ap (is_in c.liars) (sym lane_is) ∙ honest } in
        let source =
        cast_from c own.lane c.n posts (votes.Propose own.epoch own.content)
        (validity.proposed own.lane own.epoch own.node own.content sender own.correct own.cast) in
        record {
          post = source.0;
          stands = source.1;
          same =
              proposed_claim c own.lane own.epoch own.content source.0 sender source.2
              ∙ ap₂ (λ (t : ℕ) (b : List ℕ). Some (t, b)) own.place_is own.body_is
              ∙ sym given;
        }

    each : (s number : ℕ) → is_in c.liars (s / 32) ≡ false → entry table s ≡ Some number → IsProposedAt c posts number
    each s number honest is =
        let found = entries.sound s number is in
        option_and_then_some (claim_of c Delivered) (slice_get posts number) (s, found.0) found.1
        (λ post got claims. at_post s number found.0 honest found.1 post (given_stands posts number post got) claims)

-- ---- the whole

-- by the first claims, and the deliveries that nobody proposed
pub agreed_from : (c : Numbers) (posts : List Post) (readies deliveries left : List (Option ℕ)) → AreEntries c Ready posts posts readies
    → AreEntries c Delivered posts posts deliveries → AreLeft c posts posts deliveries left → AreNone c.liars left → IsAgreed c posts
agreed_from c posts readies deliveries left one other are none = record {
  readies = record { one = alike_from_one Ready votes.Ready ready_kind c posts (entries_one c Ready posts readies one) };
  deliveries = record { one = alike_from_one Delivered votes.Delivered delivered_kind c posts (entries_one c Delivered posts deliveries other) };
  proposed = validity_from_table c posts deliveries other (proposed_from_none c posts posts deliveries left are none);
}

pub none_from_agreed : (c : Numbers) (posts : List Post) (deliveries left : List (Option ℕ)) → AreEntries c Delivered posts posts deliveries
    → AreLeft c posts posts deliveries left → IsAgreed c posts → AreNone c.liars left
none_from_agreed c posts deliveries left other are agreed =
    none_from_proposed c posts deliveries left are (table_from_validity c posts deliveries other agreed.proposed)
