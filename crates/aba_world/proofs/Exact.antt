-- Marked numbers are the votes that lanes of correct nodes have cast: a table with one bit for each place, begun with, is
-- agreement and validity.
use Rattle.std.proofs.Common.{◌≡◌, ℕ, zero, suc, ◌+◌, ◌/◌, ◌%◌, ◌<◌, ◌≤◌, Bool, true, false, ◌&&◌, ◌||◌, not, inl, inr, List, Contains, Option, None, Some, refl, sym, ap, ◌∙◌, subst, arith}
use Rattle.std.proofs.lemmas.Bool.{cases_Bool, both_ways, eqb-true, eq-eqb, and_parts, and_from, and_left, and_right, or_cases, or_left, or_right, not-true, not_from_false}
use Rattle.hb_base.specs.Numbers.{Numbers}
use Rattle.hb_wire.specs.declared.vote.Vote.{Vote}
use Rattle.hb_wire.specs.declared.vote.Vote.TheVariants.{Est, Decided}
use Rattle.hb_wire.specs.declared.post.Post.{Post}
use Rattle.hb_wire.specs.Votes.{epoch_of}
use Rattle.hb_rules.specs.Hearing.{own_in}
use Rattle.hb_rules.specs.Ledger.{IsCorrect}
use Rattle.hb_rules.proofs.Among.{any_stands}
use Rattle.hb_rules.proofs.LaneVotes.{IsSaidByLane, said_cast, cast_said, cast_low}
use Rattle.hb_rules.proofs.Lists.{list_any-from}
use Rattle.aba_world.specs.declared.marks.Kind.{Kind}
use Rattle.aba_world.specs.declared.marks.Kind.TheVariants.{Beginning, Decision}
use Rattle.aba_world.specs.Agreed.{HasEstimate, IsAgreed}
use Rattle.aba_world.specs.Marked.{places, place_of, number_of, number_in, mark_of, is_number, marks, entry, AreMarked, agrees_at, AllAgree}

-- ---- numbers

record IsOnePlace (j d k e : ℕ) (b x : Bool) : Type 0 where
  lane : j ≡ k
  epoch : d ≡ e
  bit : b ≡ x

one_number : (j d k e : ℕ) (b x : Bool) → j < 16 → k < 16 → d < 32 → e < 32 → number_of j d b ≡ number_of k e x → IsOnePlace j d k e b x
one_number j d k e true true lane other low also same = record { lane = omega arith; epoch = omega arith; bit = refl }
one_number j d k e true false lane other low also same = absurd (omega arith)
one_number j d k e false true lane other low also same = absurd (omega arith)
one_number j d k e false false lane other low also same = record { lane = omega arith; epoch = omega arith; bit = refl }

-- ---- the votes of a kind, by what they say of an epoch

record IsMade (make : ℕ → Bool → Vote) (lane k : ℕ) (vote : Vote) : Type 0 where
  epoch : ℕ
  bit : Bool
  is : vote ≡ make epoch bit
  number : number_of lane epoch bit ≡ k

record IsOfKind (kind : Kind) (make : ℕ → Bool → Vote) : Type 0 where
  gives : (lane e : ℕ) (b : Bool) → number_in kind lane (make e b) ≡ Some (number_of lane e b)
  epoch : (e : ℕ) (b : Bool) → epoch_of (make e b) ≡ e
  shape : (lane k : ℕ) (vote : Vote) → number_in kind lane vote ≡ Some k → IsMade make lane k vote

abbrev begins : ℕ → Bool → Vote
begins e b = Est e 0 b

decision_shape : (lane k : ℕ) (vote : Vote) → number_in Decision lane vote ≡ Some k → IsMade Decided lane k vote
decision_shape lane k (Decided e b) h = record { epoch = e; bit = b; is = refl; number = cc (h) }
decision_shape lane k vote h = absurd (cc (h))

beginning_shape : (lane k : ℕ) (vote : Vote) → number_in Beginning lane vote ≡ Some k → IsMade begins lane k vote
beginning_shape lane k (Est e zero b) h = record { epoch = e; bit = b; is = refl; number = cc (h) }
beginning_shape lane k (Est e (suc r) b) h = absurd (cc (h))
beginning_shape lane k vote h = absurd (cc (h))

decisions : IsOfKind Decision Decided
decisions = record { gives = λ lane e b. refl; epoch = λ e b. refl; shape = decision_shape }

beginnings : IsOfKind Beginning begins
beginnings = record { gives = λ lane e b. refl; epoch = λ e b. refl; shape = beginning_shape }

-- ---- what is marked

-- a correct node has cast the vote in this lane
record HasCast (c : Numbers) (posts : List Post) (j : ℕ) (vote : Vote) : Type 0 where
  node : ℕ
  correct : IsCorrect c node
  lane : j < c.n
  cast : Contains (own_in c node j posts) vote

number_is : (k : ℕ) (o : Option ℕ) → is_number k o ≡ true → o ≡ Some k
number_is k None h = absurd (cc (h))
number_is k (Some m) h = ap (λ (x : ℕ). Some x) (eqb-true m k h)

marked_from : (kind : Kind) (make : ℕ → Bool → Vote) → IsOfKind kind make → (c : Numbers) (posts : List Post) (table : List Bool)
    → AreMarked c kind posts table → (i j e : ℕ) (b : Bool) → IsCorrect c i → j < c.n → Contains (own_in c i j posts) (make e b)
    → entry table (number_of j e b) ≡ true
marked_from kind make of c posts table are i j e b correct lane stands =
    let k = number_of j e b in
    let source = cast_said c (number_in kind) posts i j (make e b) correct lane stands in
    let mark : mark_of c kind source.0 ≡ Some k = source.2 ∙ of.gives j e b in
    are.each k ∙ list_any-from (marks c kind k) posts source.0 source.1 (ap (is_number k) mark ∙ eq-eqb k k refl)

said_at : (kind : Kind) (c : Numbers) (posts : List Post) (table : List Bool) → AreMarked c kind posts table → (k : ℕ) → entry table k ≡ true
    → IsSaidByLane c (number_in kind) posts k
said_at kind c posts table are k h =
    let found = any_stands (marks c kind k) posts (sym (are.each k) ∙ h) in
    said_cast c (number_in kind) posts found.0 k found.1 (number_is k (mark_of c kind found.0) found.2)

moved : (c : Numbers) (posts : List Post) (make : ℕ → Bool → Vote) (i j k d e : ℕ) (b x : Bool) → IsOnePlace k d j e b x
    → Contains (own_in c i k posts) (make d b) → Contains (own_in c i j posts) (make e x)
moved c posts make i j k d e b x same stands = rw (same.lane, same.epoch, same.bit) at stands

cast_at : (kind : Kind) (make : ℕ → Bool → Vote) → IsOfKind kind make → (c : Numbers) (posts : List Post) (table : List Bool) → c.n ≤ 16
    → AreMarked c kind posts table → (j e : ℕ) (b : Bool) → j < 16 → e < 32 → entry table (number_of j e b) ≡ true → HasCast c posts j (make e b)
cast_at kind make of c posts table few are j e b lane low h =
    let said = said_at kind c posts table are (number_of j e b) h in
    let made = of.shape said.lane (number_of j e b) said.vote said.gives in
    let known : made.epoch < 32 = omega (arith, said.known, ap epoch_of made.is, of.epoch made.epoch made.bit) in
    let same = one_number said.lane made.epoch j e made.bit b (omega (arith, said.inside)) lane known low made.number in
    record {
      node = said.node;
      correct = said.correct;
      lane = subst (λ (k : ℕ). k < c.n) same.lane said.inside;
      cast = moved c posts make said.node j said.lane made.epoch e made.bit b same
          (subst (λ (v : Vote). Contains (own_in c said.node said.lane posts) v) made.is said.cast);
    }

-- ---- one place

-- at a place not both bits are decided, and each one that is was begun with
record AgreesAt (begun decided : List Bool) (s : ℕ) : Type 0 where
  one : entry decided s ≡ true → entry decided (places + s) ≡ true → ⊥
  zero_begun : entry decided s ≡ true → entry begun s ≡ true
  one_begun : entry decided (places + s) ≡ true → entry begun (places + s) ≡ true

backed_parts : (a x : Bool) → (a || not x) ≡ true → x ≡ true → a ≡ true
backed_parts a x h yes_x = elim (or_cases a (not x) h) [
  | inl back ↦ back
  | inr none ↦ absurd (both_ways x (not-true x none) yes_x)
]

backed_from : (a x : Bool) → (x ≡ true → a ≡ true) → (a || not x) ≡ true
backed_from a x back = elim (cases_Bool x) [
  | inl holds ↦ or_left a (not x) (back holds)
  | inr fails ↦ or_right a (not x) (not_from_false x fails)
]

apart_from : (x y : Bool) → (x ≡ true → y ≡ true → ⊥) → not (x && y) ≡ true
apart_from x y apart = elim (cases_Bool x) [
  | inl one ↦ elim (cases_Bool y) [
    | inl other ↦ absurd (apart one other)
    | inr fails ↦ not_from_false (x && y) (and_right x y fails)
  ]
  | inr fails ↦ not_from_false (x && y) (and_left x y fails)
]

agrees_parts : (begun decided : List Bool) (s : ℕ) → agrees_at begun decided s ≡ true → AgreesAt begun decided s
agrees_parts begun decided s h =
    let x = entry decided s in
    let y = entry decided (places + s) in
    let a = entry begun s in
    let b = entry begun (places + s) in
    let outer = and_parts (not (x && y)) ((a || not x) && (b || not y)) h in
    let inner = and_parts (a || not x) (b || not y) outer.1 in
    record {
      one = λ first second. both_ways (x && y) (not-true (x && y) outer.0) (and_from x y first second);
      zero_begun = λ first. backed_parts a x inner.0 first;
      one_begun = λ second. backed_parts b y inner.1 second;
    }

agrees_from : (begun decided : List Bool) (s : ℕ) → AgreesAt begun decided s → agrees_at begun decided s ≡ true
agrees_from begun decided s agrees =
    let x = entry decided s in
    let y = entry decided (places + s) in
    let a = entry begun s in
    let b = entry begun (places + s) in
    and_from (not (x && y)) ((a || not x) && (b || not y)) (apart_from x y agrees.one)
    (and_from (a || not x) (b || not y) (backed_from a x agrees.zero_begun) (backed_from b y agrees.one_begun))

-- ---- all places

place_inside : (j e : ℕ) → j < 16 → e < 32 → place_of j e < places
place_inside j e lane low = omega arith

at_place : (begun decided : List Bool) (j e : ℕ) → AllAgree begun decided → j < 16 → e < 32 → AgreesAt begun decided (place_of j e)
at_place begun decided j e all lane low = agrees_parts begun decided (place_of j e) (all.each (place_of j e) (place_inside j e lane low))

one_bit : (begun decided : List Bool) (j e : ℕ) (b d : Bool) → AgreesAt begun decided (place_of j e) → entry decided (number_of j e b) ≡ true
    → entry decided (number_of j e d) ≡ true → b ≡ d
one_bit begun decided j e true true at first second = refl
one_bit begun decided j e true false at first second = absurd (at.one second first)
one_bit begun decided j e false true at first second = absurd (at.one first second)
one_bit begun decided j e false false at first second = refl

begun_at : (begun decided : List Bool) (j e : ℕ) (b : Bool) → AgreesAt begun decided (place_of j e) → entry decided (number_of j e b) ≡ true
    → entry begun (number_of j e b) ≡ true
begun_at begun decided j e true at first = at.one_begun first
begun_at begun decided j e false at first = at.zero_begun first

-- by tables that agree at all places
pub agreed_from : (c : Numbers) (posts : List Post) (begun decided : List Bool) → c.n ≤ 16 → AreMarked c Beginning posts begun
    → AreMarked c Decision posts decided → AllAgree begun decided → IsAgreed c posts
agreed_from c posts begun decided few first second all = record {
  decisions = record {
    one = λ j e i m b d lane correct also one other.
        let low : e < 32 = cast_low c posts i j (Decided e b) one in
        one_bit begun decided j e b d (at_place begun decided j e all (omega (arith, few, lane)) low)
        (marked_from Decision Decided decisions c posts decided second i j e b correct lane one)
        (marked_from Decision Decided decisions c posts decided second m j e d also lane other);
  };
  begun = record {
    begun = λ j e i b lane correct one.
        let low : e < 32 = cast_low c posts i j (Decided e b) one in
        let inside : j < 16 = omega (arith, few, lane) in
        let began = cast_at Beginning begins beginnings c posts begun few first j e b inside low
        (begun_at begun decided j e b (at_place begun decided j e all inside low)
        (marked_from Decision Decided decisions c posts decided second i j e b correct lane one)) in
        record { node = began.node; correct = began.correct; cast = began.cast };
  };
}

-- the converse
agreed_at : (c : Numbers) (posts : List Post) (begun decided : List Bool) → c.n ≤ 16 → AreMarked c Beginning posts begun
    → AreMarked c Decision posts decided → IsAgreed c posts → (j e : ℕ) → j < 16 → e < 32 → AgreesAt begun decided (place_of j e)
agreed_at c posts begun decided few first second agreed j e lane low = record {
  one = λ one other.
      let zero_cast = at false one in
      let one_cast = at true other in
      let same : false ≡ true =
      agreed.decisions.one j e zero_cast.node one_cast.node false true zero_cast.lane zero_cast.correct one_cast.correct zero_cast.cast one_cast.cast in
      cc (same);
  zero_begun = λ one. back false (at false one);
  one_begun = λ other. back true (at true other);
}
  where
    at : (b : Bool) → entry decided (number_of j e b) ≡ true → HasCast c posts j (Decided e b)
    at b h = cast_at Decision Decided decisions c posts decided few second j e b lane low h

    back : (b : Bool) → HasCast c posts j (Decided e b) → entry begun (number_of j e b) ≡ true
    back b cast =
        let began : HasEstimate c posts j e 0 b = agreed.begun.begun j e cast.node b cast.lane cast.correct cast.cast in
        marked_from Beginning begins beginnings c posts begun first began.node j e b began.correct cast.lane began.cast

pub agree_from : (c : Numbers) (posts : List Post) (begun decided : List Bool) → c.n ≤ 16 → AreMarked c Beginning posts begun
    → AreMarked c Decision posts decided → IsAgreed c posts → AllAgree begun decided
agree_from c posts begun decided few first second agreed = record {
  each = λ s inside.
      let is : place_of (s / 32) (s % 32) ≡ s = omega arith in
      let lane : s / 32 < 16 = omega arith in
      let low : s % 32 < 32 = omega arith in
      agrees_from begun decided s
      (subst (λ (t : ℕ). AgreesAt begun decided t) is (agreed_at c posts begun decided few first second agreed (s / 32) (s % 32) lane low));
}
