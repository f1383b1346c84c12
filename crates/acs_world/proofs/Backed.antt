-- What stood behind a closed list when it was cast stands behind it in the whole history.
use Rattle.std.proofs.Common.{◌≡◌, ℕ, ◌≤◌, ◌-◌, ◌==◌, ◌&&◌, Bool, true, false, inl, inr, List, Contains, subst, arith}
use Rattle.std.proofs.lemmas.Bool.{eqb-true, and_parts}
use Rattle.std.proofs.lemmas.List.Elements.{All-contains}
use Rattle.hb_base.specs.Counting.{count_nodes}
use Rattle.hb_base.specs.Numbers.{Numbers}
use Rattle.hb_base.specs.NodeSet.{is_in}
use Rattle.hb_wire.specs.declared.items.Item.{Item}
use Rattle.hb_wire.specs.declared.vote.Vote.{Vote}
use Rattle.hb_wire.specs.declared.vote.Vote.TheVariants.{Delivered, Decided, NoMore, Closed}
use Rattle.hb_wire.specs.declared.post.Post.{Post}
use Rattle.hb_rules.specs.Claims.{is_decision}
use Rattle.hb_rules.specs.Hearing.{Hearing, hearing, heard_in, heard_by, own_in}
use Rattle.hb_rules.specs.Desk.{IsAccepted}
use Rattle.hb_rules.specs.History.{IsLegal}
use Rattle.hb_rules.proofs.Among.{any_stands}
use Rattle.hb_rules.proofs.Cast.{WasAllowed, was_allowed, said_later}
use Rattle.hb_rules.proofs.DeskVotes.{decision-is, IsOfOwnLane-decision, IsOfOwnLane-delivery, lane_cast}
use Rattle.acs_world.specs.Backing.{IsBacked}

-- ---- what a desk had heard of its node's lanes

-- a decision that a desk had heard of a lane when it cast a vote
pub decision_cast : (c : Numbers) (history : List Post) (i j e : ℕ) (b : Bool) (vote : Vote) → (was : WasAllowed c i c.n history vote)
    → heard_by (heard_in c i c.n was.before) j (is_decision e b) ≡ true → Contains (own_in c i j history) (Decided e b)
decision_cast c history i j e b vote was h =
    let passes : Hearing → Bool = λ g. (g.from == j) && is_decision e b g.vote in
    let found = any_stands passes (heard_in c i c.n was.before) h in
    let parts = and_parts (found.0.from == j) (is_decision e b found.0.vote) found.2 in
    let heard : Contains (heard_in c i c.n was.before) (hearing found.0.from (Decided e b)) =
    subst (λ (v : Vote). Contains (heard_in c i c.n was.before) (hearing found.0.from v)) (decision-is e b found.0.vote parts.1) found.1 in
    let of_lane : Contains (heard_in c i c.n was.before) (hearing j (Decided e b)) =
    subst (λ (a : ℕ). Contains (heard_in c i c.n was.before) (hearing a (Decided e b))) (eqb-true found.0.from j parts.0) heard in
    said_later c i c.n i j history vote (Decided e b) was (lane_cast c i j (Decided e b) was.before (IsOfOwnLane-decision c.n e b) of_lane).cast

-- ---- what was allowed

accepted_backed : (c : Numbers) (history : List Post) (i e : ℕ) (list : List Item) → (was : WasAllowed c i c.n history (Closed e list))
    → IsAccepted c e (heard_in c i c.n was.before) list → IsBacked c history i e list
accepted_backed c history i e list was accepted = record {
  bits = accepted.bits;
  decided = λ j below. decision_cast c history i j e (accepted.bits j) (Closed e list) was (accepted.decided j below);
  lanes = accepted.lanes;
  delivered = λ item stands.
      let heard : Contains (heard_in c i c.n was.before) (hearing item.node (Delivered e item.value)) =
      All-contains (λ (x : Item). Contains (heard_in c i c.n was.before) (hearing x.node (Delivered e x.value))) list item accepted.values stands in
      let of_lane = lane_cast c i item.node (Delivered e item.value) was.before (IsOfOwnLane-delivery c.n e item.value) heard in
      record {
        lane = of_lane.known;
        cast = said_later c i c.n i item.node history (Closed e list) (Delivered e item.value) was of_lane.cast;
      };
}

pub closing_backed : (c : Numbers) (history : List Post) (i e : ℕ) (list : List Item) → IsLegal c history → is_in c.liars i ≡ false
    → Contains (own_in c i c.n history) (Closed e list) → IsBacked c history i e list
closing_backed c history i e list legal correct stands =
    let was = was_allowed c i c.n correct history legal (Closed e list) stands in
    elim was.may [
      | inl may ↦ absurd (omega (arith, may.0))
      | inr may ↦ accepted_backed c history i e list was may.1.1
    ]

-- where a desk wants no more lanes, n - f of its node's lanes have decided 1
pub record WasEnough (c : Numbers) (history : List Post) (i e : ℕ) : Type 0 where
  pub votes : ℕ → Bool
  pub many : c.n - c.f ≤ count_nodes c.n votes
  pub each : (j : ℕ) → votes j ≡ true → Contains (own_in c i j history) (Decided e true)

pub was_enough : (c : Numbers) (history : List Post) (i e : ℕ) → IsLegal c history → is_in c.liars i ≡ false
    → Contains (own_in c i c.n history) (NoMore e) → WasEnough c history i e
was_enough c history i e legal correct stands =
    let was = was_allowed c i c.n correct history legal (NoMore e) stands in
    elim was.may [
      | inl may ↦ absurd (omega (arith, may.0))
      | inr may ↦ record {
        votes = λ j. heard_by (heard_in c i c.n was.before) j (is_decision e true);
        many = may.1.0;
        each = λ j h. decision_cast c history i j e true (NoMore e) was h;
      }
    ]
