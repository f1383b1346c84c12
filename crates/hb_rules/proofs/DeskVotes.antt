-- The votes of desks: those that pass tests, of whom a desk heard them, and that it closes one epoch after the other.
use Rattle.std.proofs.Common.{◌≡◌, ℕ, zero, suc, ◌<◌, ◌==◌, ◌&&◌, nat_lt, Bool, true, false, inl, inr, List, Contains, None, Some, if◌then◌else◌, refl, sym, ap, ◌∙◌, subst, arith}
use Rattle.std.specs.List.{list_any}
use Rattle.std.proofs.lemmas.Bool.{eqb-true, eq-eqb, ltb-true, and_parts, cases_eq}
use Rattle.hb_base.specs.Numbers.{Numbers}
use Rattle.hb_base.specs.NodeSet.{is_in}
use Rattle.hb_wire.specs.declared.items.Item.{Item}
use Rattle.hb_wire.specs.declared.vote.Vote.{Vote}
use Rattle.hb_wire.specs.declared.vote.Vote.TheVariants.{Delivered, Decided, Closed}
use Rattle.hb_wire.specs.declared.post.Post.{Post}
use Rattle.hb_rules.specs.Claims.{is_bit, is_decision, is_any_decision, is_any_delivery, is_any_closing, closed_with}
use Rattle.hb_rules.specs.Desk.{is_open}
use Rattle.hb_rules.specs.Hearing.{Hearing, hearing, heeds, name_at, heard_in, own_in}
use Rattle.hb_rules.specs.History.{IsLegal}
use Rattle.hb_rules.specs.Rules.{MayCast}
use Rattle.hb_rules.proofs.AgreementParts.{same_bits}
use Rattle.hb_rules.proofs.Among.{any_stands}
use Rattle.hb_rules.proofs.Cast.{heard_from, cast_stands, was_allowed, said_later}
use Rattle.hb_rules.proofs.Lists.{list_any-from}
use Rattle.hb_rules.proofs.Once.{IsOnce}

-- ---- the votes that pass tests

pub decision-is : (e : ℕ) (b : Bool) (vote : Vote) → is_decision e b vote ≡ true → vote ≡ Decided e b
decision-is e b (Decided d bit) h = by (d == e) refl h
  where
    by : (t : Bool) → (d == e) ≡ t → is_bit b (if t then Some bit else None) ≡ true → Decided d bit ≡ Decided e b
    by true same h =
        let epoch : d ≡ e = eqb-true d e same in
        let bits : b ≡ bit = same_bits b bit h in
        cc (epoch, bits)
    by false other h = absurd (cc (h))
decision-is e b vote h = absurd (cc (h))

pub decision-marked : (e : ℕ) (b : Bool) → is_decision e b (Decided e b) ≡ true
decision-marked e true = let same : (e == e) ≡ true = eq-eqb e e refl in rw same refl
decision-marked e false = let same : (e == e) ≡ true = eq-eqb e e refl in rw same refl

pub any_decision-is : (e : ℕ) (vote : Vote) → is_any_decision e vote ≡ true → (b : Bool) × (vote ≡ Decided e b)
any_decision-is e (Decided d bit) h = by (d == e) refl h
  where
    by : (t : Bool) → (d == e) ≡ t → is_any_decision e (Decided d bit) ≡ true → (b : Bool) × (Decided d bit ≡ Decided e b)
    by true same h = (bit, let epoch : d ≡ e = eqb-true d e same in cc (epoch))
    by false other h = absurd (let none : is_any_decision e (Decided d bit) ≡ false = rw other refl in cc (none, h))
any_decision-is e vote h = absurd (cc (h))

pub any_delivery-is : (e : ℕ) (vote : Vote) → is_any_delivery e vote ≡ true → (value : List ℕ) × (vote ≡ Delivered e value)
any_delivery-is e (Delivered d bytes) h = by (d == e) refl h
  where
    by : (t : Bool) → (d == e) ≡ t → is_any_delivery e (Delivered d bytes) ≡ true → (value : List ℕ) × (Delivered d bytes ≡ Delivered e value)
    by true same h = (bytes, let epoch : d ≡ e = eqb-true d e same in cc (epoch))
    by false other h = absurd (let none : is_any_delivery e (Delivered d bytes) ≡ false = rw other refl in cc (none, h))
any_delivery-is e vote h = absurd (cc (h))

pub closing-is : (e : ℕ) (vote : Vote) (list : List Item) → closed_with e vote ≡ Some list → vote ≡ Closed e list
closing-is e (Closed d items) list h = by (d == e) refl h
  where
    by : (t : Bool) → (d == e) ≡ t → (if t then Some items else None) ≡ Some list → Closed d items ≡ Closed e list
    by true same h =
        let epoch : d ≡ e = eqb-true d e same in
        let lists : items ≡ list = cc (h) in
        cc (epoch, lists)
    by false other h = absurd (cc (h))
closing-is e vote list h = absurd (cc (h))

pub closing-gives : (e : ℕ) (list : List Item) → closed_with e (Closed e list) ≡ Some list
closing-gives e list = let same : (e == e) ≡ true = eq-eqb e e refl in rw same refl

pub closing-marked : (e : ℕ) (list : List Item) → is_any_closing e (Closed e list) ≡ true
closing-marked e list = let same : (e == e) ≡ true = eq-eqb e e refl in rw same refl

-- a vote that closes the epoch, and with which list
pub any_closing-is : (e : ℕ) (vote : Vote) → is_any_closing e vote ≡ true → (list : List Item) × (vote ≡ Closed e list)
any_closing-is e (Closed d items) h = by (d == e) refl h
  where
    by : (t : Bool) → (d == e) ≡ t → is_any_closing e (Closed d items) ≡ true → (list : List Item) × (Closed d items ≡ Closed e list)
    by true same h = (items, let epoch : d ≡ e = eqb-true d e same in cc (epoch))
    by false other h = absurd (let none : is_any_closing e (Closed d items) ≡ false = rw other refl in cc (none, h))
any_closing-is e vote h = absurd (cc (h))

-- ---- what a desk heard of its node's lanes

-- a vote that a desk takes heed of from its own node's lanes alone
pub record IsOfOwnLane (n : ℕ) (vote : Vote) : Type 0 where
  pub lane : (i x a y : ℕ) → heeds n i x a y vote ≡ true → (a ≡ i) × (y < n)

own_lane : (n i x a y : ℕ) → ((x == n) && ((a == i) && nat_lt y n)) ≡ true → (a ≡ i) × (y < n)
own_lane n i x a y h =
    let home = and_parts (a == i) (nat_lt y n) (and_parts (x == n) ((a == i) && nat_lt y n) h).1 in
    (eqb-true a i home.0, ltb-true y n home.1)

pub IsOfOwnLane-decision : (n e : ℕ) (b : Bool) → IsOfOwnLane n (Decided e b)
IsOfOwnLane-decision n e b = record { lane = λ i x a y h. own_lane n i x a y h }

pub IsOfOwnLane-delivery : (n e : ℕ) (value : List ℕ) → IsOfOwnLane n (Delivered e value)
IsOfOwnLane-delivery n e value = record { lane = λ i x a y h. own_lane n i x a y h }

-- such a vote that a desk heard of a lane, its own node's lane has cast
pub record IsLaneCast (c : Numbers) (history : List Post) (i j : ℕ) (vote : Vote) : Type 0 where
  pub known : j < c.n
  pub cast : Contains (own_in c i j history) vote

pub lane_cast : (c : Numbers) (i j : ℕ) (vote : Vote) (history : List Post) → IsOfOwnLane c.n vote
    → Contains (heard_in c i c.n history) (hearing j vote) → IsLaneCast c history i j vote
lane_cast c i j vote history of_lane stands =
    let source = heard_from c i c.n history (hearing j vote) stands in
    let vote_is : source.2.vote ≡ vote = ap (λ (g : Hearing). g.vote) source.2.hearing_is in
    let home = of_lane.lane i c.n source.0.from source.0.actor (rw vote_is at source.2.heeded) in
    let desk : (c.n == c.n) ≡ true = eq-eqb c.n c.n refl in
    let named : name_at c c.n source.0 ≡ j = ap (λ (g : Hearing). g.from) source.2.hearing_is in
    let actor : source.0.actor ≡ j = rw desk at named in
    record {
      known = subst (λ (y : ℕ). y < c.n) actor home.1;
      cast = cast_stands c i j history source.0 vote source.1
          (record { from = home.0; actor = actor; is = source.2.is ∙ ap Some vote_is });
    }

-- ---- one epoch after the other

-- the epoch before was closed
pub closing_follows : (c : Numbers) (history : List Post) (i e : ℕ) (list : List Item) → IsLegal c history → is_in c.liars i ≡ false
    → Contains (own_in c i c.n history) (Closed (suc e) list) → (other : List Item) × Contains (own_in c i c.n history) (Closed e other)
closing_follows c history i e list legal correct stands =
    let was = was_allowed c i c.n correct history legal (Closed (suc e) list) stands in
    elim was.may [
      | inl may ↦ absurd (omega (arith, may.0))
      | inr may ↦
          let found = any_stands (is_any_closing e) (own_in c i c.n was.before) may.1.0 in
          let is = any_closing-is e found.0 found.2 in
          let cast : Contains (own_in c i c.n was.before) (Closed e is.0) =
          subst (λ (v : Vote). Contains (own_in c i c.n was.before) v) is.1 found.1 in
          (is.0, said_later c i c.n i c.n history (Closed (suc e) list) (Closed e is.0) was cast)
    ]

-- an epoch that was closed opens the one behind it, and was open itself
pub closed_open : (c : Numbers) (history : List Post) (i e : ℕ) (list : List Item) → IsLegal c history → is_in c.liars i ≡ false
    → Contains (own_in c i c.n history) (Closed e list) → is_open e (own_in c i c.n history) ≡ true
closed_open c history i zero list legal correct stands = refl
closed_open c history i (suc e) list legal correct stands =
    let before = closing_follows c history i e list legal correct stands in
    list_any-from (is_any_closing e) (own_in c i c.n history) (Closed e before.0) before.1 (closing-marked e before.0)

-- all epochs below an open one were closed
pub open_below : (c : Numbers) (history : List Post) (i e : ℕ) → IsLegal c history → is_in c.liars i ≡ false
    → is_open e (own_in c i c.n history) ≡ true → (d : ℕ) → d < e → (list : List Item) × Contains (own_in c i c.n history) (Closed d list)
open_below c history i zero legal correct opened d below = absurd (omega arith)
open_below c history i (suc e) legal correct opened d below =
    let own : List Vote = own_in c i c.n history in
    let found = any_stands (is_any_closing e) own opened in
    let is = any_closing-is e found.0 found.2 in
    let cast : Contains own (Closed e is.0) = subst (λ (v : Vote). Contains own v) is.1 found.1 in
    elim (cases_eq d e) [
      | inl same ↦ (is.0, subst (λ (k : ℕ). Contains own (Closed k is.0)) (sym same) cast)
      | inr other ↦ open_below c history i e legal correct (closed_open c history i e is.0 legal correct cast) d (omega (arith, below, other))
    ]

-- a desk closes an epoch once
pub closing-once : (c : Numbers) (e : ℕ) → IsOnce c (is_any_closing e)
closing-once c e = record { first = first }
  where
    first : (i x : ℕ) (own : List Vote) (heard : List Hearing) (vote : Vote) → is_any_closing e vote ≡ true → MayCast c i x own heard vote
        → list_any (is_any_closing e) own ≡ false
    first i x own heard (Closed d list) marked (inl may) = absurd may.1
    first i x own heard (Closed d list) marked (inr may) =
        let is = any_closing-is e (Closed d list) marked in
        let epoch : d ≡ e = cc (is.1) in
        ap (λ (k : ℕ). list_any (is_any_closing k) own) (sym epoch) ∙ may.1.2
    first i x own heard vote marked may = absurd (cc (marked))
