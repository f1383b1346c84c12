-- What lanes of correct nodes have posted is what they have cast.
use Rattle.std.proofs.Common.{◌≡◌, ℕ, ◌<◌, true, ◌&&◌, not, nat_lt, List, Contains, Option, Some, refl, ap, ◌∙◌, subst}
use Rattle.std.specs.Option.{option_and_then}
use Rattle.std.proofs.lemmas.Bool.{and_parts, and_from, not-true, not_from_false, ltb-true, lt-ltb}
use Rattle.std.proofs.lemmas.Option.{cond_some, option_and_then_some}
use Rattle.hb_base.specs.Limits.{most_epochs}
use Rattle.hb_base.specs.Numbers.{Numbers}
use Rattle.hb_base.specs.NodeSet.{is_in}
use Rattle.hb_wire.specs.declared.vote.Vote.{Vote}
use Rattle.hb_wire.specs.declared.post.Post.{Post}
use Rattle.hb_wire.specs.Votes.{epoch_of, Spells}
use Rattle.hb_wire.proofs.VoteLemmas.{vote_takes}
use Rattle.hb_rules.specs.Hearing.{spelled, own_in}
use Rattle.hb_rules.specs.Lanes.{is_correct, posting_lane, said_by_lane}
use Rattle.hb_rules.specs.Ledger.{IsCorrect}
use Rattle.hb_rules.proofs.Cast.{cast_from, cast_stands}

pub correct_is : (c : Numbers) (i : ℕ) → is_correct c i ≡ true → IsCorrect c i
correct_is c i h =
    let parts = and_parts (nat_lt i c.n) (not (is_in c.liars i)) h in
    record { known = ltb-true i c.n parts.0; honest = not-true (is_in c.liars i) parts.1 }

pub correct_from : (c : Numbers) (i : ℕ) → IsCorrect c i → is_correct c i ≡ true
correct_from c i correct =
    and_from (nat_lt i c.n) (not (is_in c.liars i)) (lt-ltb i c.n correct.known) (not_from_false (is_in c.liars i) correct.honest)

-- a post of a lane of a correct node
pub record IsOfLane (c : Numbers) (post : Post) (lane : ℕ) : Type 0 where
  pub correct : IsCorrect c post.from
  pub actor : post.actor ≡ lane
  pub inside : lane < c.n

pub of_lane : (c : Numbers) (post : Post) (lane : ℕ) → posting_lane c post ≡ Some lane → IsOfLane c post lane
of_lane c post lane h =
    let chosen = cond_some (is_correct c post.from && nat_lt post.actor c.n) post.actor lane h in
    let parts = and_parts (is_correct c post.from) (nat_lt post.actor c.n) chosen.0 in
    let inside : post.actor < c.n = ltb-true post.actor c.n parts.1 in
    record { correct = correct_is c post.from parts.0; actor = chosen.1; inside = subst (λ (x : ℕ). x < c.n) chosen.1 inside }

pub lane_from : (c : Numbers) (post : Post) (i lane : ℕ) → IsCorrect c i → lane < c.n → post.from ≡ i → post.actor ≡ lane
    → posting_lane c post ≡ Some lane
lane_from c post i lane correct inside from actor =
    let right : (is_correct c post.from && nat_lt post.actor c.n) ≡ true =
    and_from (is_correct c post.from) (nat_lt post.actor c.n) (ap (is_correct c) from ∙ correct_from c i correct)
    (ap (λ (x : ℕ). nat_lt x c.n) actor ∙ lt-ltb lane c.n inside) in
    rw right (ap (λ (x : ℕ). Some x) actor)

-- a vote that a lane of a correct node has cast, and what it says
pub record IsSaidByLane {A : Type 0} (c : Numbers) (says : ℕ → Vote → Option A) (posts : List Post) (y : A) : Type 0 where
  pub node : ℕ
  pub lane : ℕ
  pub vote : Vote
  pub correct : IsCorrect c node
  pub inside : lane < c.n
  pub known : epoch_of vote < most_epochs
  pub cast : Contains (own_in c node lane posts) vote
  pub gives : says lane vote ≡ Some y

-- what a post says that stands among others, a lane of a correct node has cast
pub said_cast : {A : Type 0} (c : Numbers) (says : ℕ → Vote → Option A) (posts : List Post) (post : Post) (y : A) → Contains posts post
    → said_by_lane c says post ≡ Some y → IsSaidByLane c says posts y
said_cast c says posts post y stands said =
    option_and_then_some (λ lane. option_and_then (says lane) (spelled c post)) (posting_lane c post) y said
    (λ lane lane_is inner. option_and_then_some (says lane) (spelled c post) y inner
    (λ vote spells gives.
    let own = of_lane c post lane lane_is in
    let right : Spells c.n c.version post.bytes vote = vote_takes c.n c.version post.bytes vote spells in
    record {
      node = post.from;
      lane = lane;
      vote = vote;
      correct = own.correct;
      inside = own.inside;
      known = right.fits.epoch;
      cast = cast_stands c post.from lane posts post vote stands (record { from = refl; actor = own.actor; is = spells });
      gives = gives;
    }))

-- and the converse
pub cast_said : {A : Type 0} (c : Numbers) (says : ℕ → Vote → Option A) (posts : List Post) (i j : ℕ) (vote : Vote) → IsCorrect c i → j < c.n
    → Contains (own_in c i j posts) vote → (post : Post) × Contains posts post × (said_by_lane c says post ≡ says j vote)
cast_said c says posts i j vote correct lane stands =
    let source = cast_from c i j posts vote stands in
    let of : posting_lane c source.0 ≡ Some j = lane_from c source.0 i j correct lane source.2.from source.2.actor in
    let is : spelled c source.0 ≡ Some vote = source.2.is in
    (source.0, source.1, rw (of, is) refl)

-- the epoch of a vote that was cast is one
pub cast_low : (c : Numbers) (posts : List Post) (i x : ℕ) (vote : Vote) → Contains (own_in c i x posts) vote → epoch_of vote < most_epochs
cast_low c posts i x vote stands =
    let source = cast_from c i x posts vote stands in
    (vote_takes c.n c.version source.0.bytes vote source.2.is).fits.epoch
