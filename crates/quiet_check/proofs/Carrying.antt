-- What a broadcast owes by two lists of hearings, of which one carries no less than the other. The letters: lane j of node i,
-- epoch e, node a.
use Rattle.std.proofs.Common.{◌≡◌, ℕ, ◌+◌, ◌-◌, ◌*◌, ◌<◌, ◌≤◌, Bool, true, false, ◌&&◌, ◌==◌, nat_le, inl, inr, List, [], ◌∷◌, ◌++◌, length, length-append, take, Contains, Option, None, Some, if◌then◌else◌, is_some, refl, sym, ap, ◌∙◌, arith, bytes_eq}
use Rattle.std.specs.List.{filter_map, fold}
use Rattle.std.specs.Option.{option_map, option_or, option_and_then}
use Rattle.std.proofs.lemmas.Bool.{and_parts, and_from, or_cases, or_left, or_right, eqb-true, leb-true, le-leb, cases_lt}
use Rattle.std.proofs.lemmas.List.{take_all, take-append-le}
use Rattle.std.proofs.lemmas.List.Elements.{filter_map-append}
use Rattle.std.proofs.lemmas.List.Sums.{fold-append}
use Rattle.std.proofs.lemmas.Slice.Eq.{bytes_eq-Decides}
use Rattle.hb_base.specs.Numbers.{Numbers, AreSound}
use Rattle.rs_shards.specs.Completing.{are_even, completed, encoded}
use Rattle.rs_shards.specs.Frame.{framed_value}
use Rattle.merkle_branch.specs.Digests.{tree_root}
use Rattle.hb_wire.specs.declared.vote.Vote.{Vote}
use Rattle.hb_wire.specs.declared.vote.Vote.TheVariants.{Ready, Delivered}
use Rattle.hb_rules.specs.BroadcastRows.{val_slot, val_of, echo_slot, ready_slot, delivery_slot, proposal_in, echo_in, shard_of, shards_of, value_through, value_of, named, is_made_ready, ready_made, delivery_made}
use Rattle.hb_rules.specs.Claims.{echoed, readied, has_root, are_these, is_echo, is_ready}
use Rattle.hb_rules.specs.Code.{data_count, echo_count, ready_count}
use Rattle.hb_rules.specs.FirstShown.{has_node, with_first, firsts_shown}
use Rattle.hb_rules.specs.Hearing.{Hearing, heard_by}
use Rattle.hb_rules.specs.Owing.{broadcast_slots}
use Rattle.hb_rules.specs.Slots.{IsIdle, first_of, when}
use Rattle.hb_rules.proofs.Among.{any_stands, heard_by-grows, echo_count-grows, ready_count-grows}
use Rattle.hb_rules.proofs.BroadcastParts.{rows_hold, slots_hold}
use Rattle.hb_rules.proofs.Counts.{member_from_count}
use Rattle.hb_rules.proofs.Lists.{first_source, some_if}
use Rattle.hb_rules.proofs.MoreHeard.{AreAmong-more}
use Rattle.rbc_core.proofs.Firsts.{first_of-append, first_none}
use Rattle.rbc_core.proofs.Hearings.{kinds_apart}
use Rattle.quiet_check.proofs.Slots.{IsCarried, idle_carried}

-- ---- who has shown something of a root has named it

these_are : (bytes : List ℕ) (o : Option (List ℕ)) → are_these bytes o ≡ true → o ≡ Some bytes
these_are bytes None h = absurd (cc (h))
these_are bytes (Some others) h = ap Some (sym ((bytes_eq-Decides bytes others).0 h))

ready_names : (n e : ℕ) (root : List ℕ) (h : Hearing) → is_ready e root h.vote ≡ true → named n e h ≡ Some root
ready_names n e root h passes = by (echoed n e h.from h.vote) refl
  where
    is : readied e h.vote ≡ Some root
    is = these_are root (readied e h.vote) passes

    by : (o : Option (List ℕ × List ℕ)) → echoed n e h.from h.vote ≡ o → option_or (option_map (λ part. part.0) o) (readied e h.vote) ≡ Some root
    by None gives = is
    by (Some part) gives = absurd (cc (sym (kinds_apart n e h.from h.vote part gives) ∙ is))

echo_names : (n e : ℕ) (root : List ℕ) (h : Hearing) → is_echo n e root h.from h.vote ≡ true → named n e h ≡ Some root
echo_names n e root h passes = by (echoed n e h.from h.vote) passes
  where
    by : (o : Option (List ℕ × List ℕ)) → has_root root o ≡ true → option_or (option_map (λ part. part.0) o) (readied e h.vote) ≡ Some root
    by None passes = absurd (cc (passes))
    by (Some part) passes = ap Some (sym ((bytes_eq-Decides root part.0).0 passes))

-- a hearing that names a root
pub record IsNamed (n e : ℕ) (heard : List Hearing) (root : List ℕ) : Type 0 where
  pub hearing : Hearing
  pub stands : Contains heard hearing
  pub names : named n e hearing ≡ Some root

named_if_ready : (n e : ℕ) (root : List ℕ) (heard : List Hearing) → 0 < ready_count n e root (heard_by heard) → IsNamed n e heard root
named_if_ready n e root heard some =
    let a = member_from_count n (λ a. heard_by heard a (is_ready e root)) some in
    let found = any_stands (λ h. (h.from == a.0) && is_ready e root h.vote) heard a.2 in
    let parts = and_parts (found.0.from == a.0) (is_ready e root found.0.vote) found.2 in
    record { hearing = found.0; stands = found.1; names = ready_names n e root found.0 parts.1 }

named_if_echoed : (n e : ℕ) (root : List ℕ) (heard : List Hearing) → 0 < echo_count n e root (heard_by heard) → IsNamed n e heard root
named_if_echoed n e root heard some =
    let a = member_from_count n (λ a. heard_by heard a (is_echo n e root a)) some in
    let found = any_stands (λ h. (h.from == a.0) && is_echo n e root a.0 h.vote) heard a.2 in
    let parts = and_parts (found.0.from == a.0) (is_echo n e root a.0 found.0.vote) found.2 in
    let from : found.0.from ≡ a.0 = eqb-true found.0.from a.0 parts.0 in
    record {
      hearing = found.0;
      stands = found.1;
      names = echo_names n e root found.0 (ap (λ (b : ℕ). is_echo n e root b found.0.vote) from ∙ parts.1);
    }

-- ---- hearings that carry no less

pub record Carries (c : Numbers) (i j e : ℕ) (one other : List Hearing) : Type 0 where
  pub proposal : first_of (proposal_in i e) one ≡ None → first_of (proposal_in i e) other ≡ None
  pub val : first_of (echo_in c.n e i j) one ≡ None → first_of (echo_in c.n e i j) other ≡ None
  pub echoes : (root : List ℕ) → echo_count c.n e root (heard_by other) ≤ echo_count c.n e root (heard_by one)
  pub readies : (root : List ℕ) → ready_count c.n e root (heard_by other) ≤ ready_count c.n e root (heard_by one)
  pub value : (root value : List ℕ) → value_of c e other root ≡ Some value → value_of c e one root ≡ Some value

is_there : {A : Type 0} (o : Option A) → is_some o ≡ true → (x : A) × (o ≡ Some x)
is_there None h = absurd (cc (h))
is_there (Some x) h = (x, refl)

some_there : {A : Type 0} (o : Option A) (x : A) → o ≡ Some x → is_some o ≡ true
some_there o x is = ap is_some is

-- a root for which a node is made ready is named
ready_named : (c : Numbers) (e : ℕ) (heard : List Hearing) (root : List ℕ) → AreSound c → is_made_ready c e heard root ≡ true → IsNamed c.n e heard root
ready_named c e heard root sound made =
    elim (or_cases (nat_le (c.n - c.f) echoes && is_some (value_of c e heard root)) (nat_le (c.f + 1) readies) made) [
      | inl first ↦
          let enough = leb-true (c.n - c.f) echoes (and_parts (nat_le (c.n - c.f) echoes) (is_some (value_of c e heard root)) first).0 in
          named_if_echoed c.n e root heard (omega (arith, enough, sound.enough))
      | inr second ↦ let enough = leb-true (c.f + 1) readies second in named_if_ready c.n e root heard (omega (arith, enough))
    ]
  where
    echoes : ℕ
    echoes = echo_count c.n e root (heard_by heard)

    readies : ℕ
    readies = ready_count c.n e root (heard_by heard)

ready_carried : (c : Numbers) (i j e : ℕ) (one other : List Hearing) (root : List ℕ) → Carries c i j e one other
    → is_made_ready c e other root ≡ true → is_made_ready c e one root ≡ true
ready_carried c i j e one other root carries made =
    elim (or_cases (nat_le (c.n - c.f) (echo_count c.n e root (heard_by other)) && is_some (value_of c e other root)) (nat_le (c.f + 1) (ready_count c.n e root (heard_by other))) made) [
      | inl first ↦
          let parts = and_parts (nat_le (c.n - c.f) (echo_count c.n e root (heard_by other))) (is_some (value_of c e other root)) first in
          let enough = leb-true (c.n - c.f) (echo_count c.n e root (heard_by other)) parts.0 in
          let value = is_there (value_of c e other root) parts.1 in
          or_left (nat_le (c.n - c.f) (echo_count c.n e root (heard_by one)) && is_some (value_of c e one root)) (nat_le (c.f + 1) (ready_count c.n e root (heard_by one)))
          (and_from (nat_le (c.n - c.f) (echo_count c.n e root (heard_by one))) (is_some (value_of c e one root))
          (le-leb (c.n - c.f) (echo_count c.n e root (heard_by one)) (more (c.n - c.f) (echo_count c.n e root (heard_by other)) (echo_count c.n e root (heard_by one)) enough (carries.echoes root)))
          (some_there (value_of c e one root) value.0 (carries.value root value.0 value.1)))
      | inr second ↦
          or_right (nat_le (c.n - c.f) (echo_count c.n e root (heard_by one)) && is_some (value_of c e one root)) (nat_le (c.f + 1) (ready_count c.n e root (heard_by one)))
          (le-leb (c.f + 1) (ready_count c.n e root (heard_by one)) (more (c.f + 1) (ready_count c.n e root (heard_by other)) (ready_count c.n e root (heard_by one))
          (leb-true (c.f + 1) (ready_count c.n e root (heard_by other)) second) (carries.readies root)))
    ]
  where
    more : (a b d : ℕ) → a ≤ b → b ≤ d → a ≤ d
    more a b d low high = omega arith

-- what a hearing makes, by the root that it names
record IsMadeOf (made : List ℕ → Option Vote) (o : Option (List ℕ)) (vote : Vote) : Type 0 where
  root : List ℕ
  names : o ≡ Some root
  gives : made root ≡ Some vote

made_of : (made : List ℕ → Option Vote) (o : Option (List ℕ)) (vote : Vote) → option_and_then made o ≡ Some vote → IsMadeOf made o vote
made_of made None vote h = absurd (cc (h))
made_of made (Some root) vote h = record { root = root; names = refl; gives = h }

-- where each root that makes a vote is named by the one list, and makes one there, and no vote is made there, none is made by the other
none_made : (n e : ℕ) (one other : List Hearing) (made now : List ℕ → Option Vote)
    → ((root : List ℕ) (vote : Vote) → made root ≡ Some vote → IsNamed n e one root × (now root ≡ None → ⊥))
    → first_of (λ h. option_and_then now (named n e h)) one ≡ None → first_of (λ h. option_and_then made (named n e h)) other ≡ None
none_made n e one other made now carried none = by (first_of (λ h. option_and_then made (named n e h)) other) refl
  where
    by : (o : Option Vote) → first_of (λ h. option_and_then made (named n e h)) other ≡ o → o ≡ None
    by None is = refl
    by (Some vote) is =
        let source = first_source (λ h. option_and_then made (named n e h)) other vote is in
        let of = made_of made (named n e source.element) vote source.gives in
        let there = carried of.root vote of.gives in
        let empty = first_none (λ h. option_and_then now (named n e h)) one none there.0.hearing there.0.stands in
        absurd (there.1 (sym (ap (λ (o : Option (List ℕ)). option_and_then now o) there.0.names) ∙ empty))

no_ready : (c : Numbers) (i j e : ℕ) (one other : List Hearing) → AreSound c → Carries c i j e one other → (root : List ℕ) (vote : Vote)
    → ready_made c e other root ≡ Some vote → IsNamed c.n e one root × (ready_made c e one root ≡ None → ⊥)
no_ready c i j e one other sound carries root vote gives =
    let chosen = some_if (is_made_ready c e other root) (Ready e root) vote gives in
    let made = ready_carried c i j e one other root carries chosen.0 in (
      ready_named c e one root sound made,
      λ none. absurd (cc (sym (ap (λ (b : Bool). when b (Ready e root)) made) ∙ none)),
    )

no_delivery : (c : Numbers) (i j e : ℕ) (one other : List Hearing) → Carries c i j e one other → (root : List ℕ) (vote : Vote)
    → delivery_made c e other root ≡ Some vote → IsNamed c.n e one root × (delivery_made c e one root ≡ None → ⊥)
no_delivery c i j e one other carries root vote gives = by (nat_le (2 * c.f + 1) (ready_count c.n e root (heard_by other))) (value_of c e other root) refl refl gives
  where
    by : (b : Bool) (o : Option (List ℕ)) → nat_le (2 * c.f + 1) (ready_count c.n e root (heard_by other)) ≡ b → value_of c e other root ≡ o
        → (if b then option_map (Delivered e) o else None) ≡ Some vote → IsNamed c.n e one root × (delivery_made c e one root ≡ None → ⊥)
    by false o few is h = absurd (cc (h))
    by true None many is h = absurd (cc (h))
    by true (Some value) many is h =
        let enough = leb-true (2 * c.f + 1) (ready_count c.n e root (heard_by other)) many in
        let now : 2 * c.f + 1 ≤ ready_count c.n e root (heard_by one) = omega (arith, enough, carries.readies root) in
        let test = le-leb (2 * c.f + 1) (ready_count c.n e root (heard_by one)) now in
        let there = carries.value root value is in (
          named_if_ready c.n e root one (omega (arith, now)),
          λ none. absurd (cc (sym (ap (λ (b : Bool). if b then option_map (Delivered e) (value_of c e one root) else None) test
              ∙ ap (λ (o : Option (List ℕ)). option_map (Delivered e) o) there) ∙ none)),
        )

-- ---- what one list leaves idle, the other does

val_carried : (c : Numbers) (i j e m : ℕ) (own : List Vote) (one other : List Hearing) → Carries c i j e one other → IsCarried own one other (val_slot c i j e m)
unfolding val_slot
val_carried c i j e m own one other carries = record { none = by (i == j) }
  where
    made : Option (List ℕ) → Option Vote
    made = option_map (λ value. val_of e m (encoded c.n (data_count c) value))

    empty : (o : Option (List ℕ)) → made o ≡ None → o ≡ None
    empty None h = refl
    empty (Some value) h = absurd (cc (h))

    by : (b : Bool) → (if b then made (first_of (proposal_in i e) one) else None) ≡ None → (if b then made (first_of (proposal_in i e) other) else None) ≡ None
    by true none = ap made (carries.proposal (empty (first_of (proposal_in i e) one) none))
    by false none = refl

echo_carried : (c : Numbers) (i j e : ℕ) (own : List Vote) (one other : List Hearing) → Carries c i j e one other → IsCarried own one other (echo_slot c i j e)
unfolding echo_slot
echo_carried c i j e own one other carries = record { none = carries.val }

ready_slot_carried : (c : Numbers) (i j e : ℕ) (own : List Vote) (one other : List Hearing) → AreSound c → Carries c i j e one other
    → IsCarried own one other (ready_slot c e)
unfolding ready_slot
ready_slot_carried c i j e own one other sound carries = record {
  none = none_made c.n e one other (ready_made c e other) (ready_made c e one) (no_ready c i j e one other sound carries);
}

delivery_carried : (c : Numbers) (i j e : ℕ) (own : List Vote) (one other : List Hearing) → Carries c i j e one other
    → IsCarried own one other (delivery_slot c e)
unfolding delivery_slot
delivery_carried c i j e own one other carries = record {
  none = none_made c.n e one other (delivery_made c e other) (delivery_made c e one) (no_delivery c i j e one other carries);
}

pub broadcast_carried : (c : Numbers) (i j e : ℕ) (own : List Vote) (one other : List Hearing) → AreSound c
    → ((k : ℕ) → Carries c i j k one other)
    → IsIdle (broadcast_slots c i j e) own one → IsIdle (broadcast_slots c i j e) own other
broadcast_carried c i j e own one other sound carries =
    idle_carried (broadcast_slots c i j e) own one other
    (slots_hold (λ k. IsCarried own one other) c i j e
    (rows_hold (λ k. IsCarried own one other) c i j
    (λ k m below. val_carried c i j k m own one other (carries k)) (λ k. echo_carried c i j k own one other (carries k))
    (λ k. ready_slot_carried c i j k own one other sound (carries k)) (λ k. delivery_carried c i j k own one other (carries k))))

-- ---- what was heard before

-- further shards stand behind the first
front_kept : (k : ℕ) (more shown : List (ℕ × List ℕ)) → k ≤ length shown → take k (fold with_first shown more) ≡ take k shown
front_kept k [] shown long = refl
front_kept k (x ∷ more) shown long = by (has_node shown x.0) (front_kept k more)
  where
    by : (b : Bool) → ((shown : List (ℕ × List ℕ)) → k ≤ length shown → take k (fold with_first shown more) ≡ take k shown)
        → take k (fold with_first (if b then shown else shown ++ x ∷ []) more) ≡ take k shown
    by true later = later shown long
    by false later = later (shown ++ x ∷ []) (omega (arith, length-append shown (x ∷ []))) ∙ take-append-le k shown (x ∷ []) long

taken_long : {A : Type 0} (k : ℕ) (xs : List A) → length (take k xs) ≡ k → k ≤ length xs
taken_long k xs long = elim (cases_lt (length xs) k) [
  | inl short ↦ let whole = ap length (take_all k xs (omega arith)) in absurd (omega arith)
  | inr enough ↦ enough
]

value_more : (c : Numbers) (e : ℕ) (heard more : List Hearing) (root value : List ℕ) → value_of c e heard root ≡ Some value
    → value_of c e (heard ++ more) root ≡ Some value
value_more c e heard more root value gives = ap (value_through c root) same ∙ gives
  where
    k : ℕ
    k = data_count c

    all : List (ℕ × List ℕ)
    all = shards_of c.n e root heard

    tests : (length (take k all) == k) ≡ true
    tests =
        (and_parts (length (take k all) == k) (are_even (take k all) && bytes_eq (tree_root (completed c.n k (take k all))) root)
        (some_if ((length (take k all) == k) && (are_even (take k all) && bytes_eq (tree_root (completed c.n k (take k all))) root))
        (framed_value k (completed c.n k (take k all))) value gives).0).0

    long : k ≤ length all
    long = taken_long k all (eqb-true (length (take k all)) k tests)

    same : take k (shards_of c.n e root (heard ++ more)) ≡ take k all
    same =
        ap (take k) (ap firsts_shown (filter_map-append (shard_of c.n e root) heard more)
        ∙ fold-append with_first [] (filter_map (shard_of c.n e root) heard) (filter_map (shard_of c.n e root) more))
        ∙ front_kept k (filter_map (shard_of c.n e root) more) all long

front_none : {A B : Type 0} (f : A → Option B) (xs ys : List A) → first_of f (xs ++ ys) ≡ None → first_of f xs ≡ None
front_none {A} {B} f xs ys none = by (first_of f xs) (sym (first_of-append f xs ys) ∙ none)
  where
    by : (o : Option B) → option_or o (first_of f ys) ≡ None → o ≡ None
    by None h = refl
    by (Some y) h = absurd (cc (h))

more_carries : (c : Numbers) (i j : ℕ) (heard more : List Hearing) (e : ℕ) → Carries c i j e (heard ++ more) heard
more_carries c i j heard more e =
    let grows = heard_by-grows heard (heard ++ more) (AreAmong-more heard more) in
    record {
      proposal = front_none (proposal_in i e) heard more;
      val = front_none (echo_in c.n e i j) heard more;
      echoes = λ root. echo_count-grows c.n e root (heard_by heard) (heard_by (heard ++ more)) grows;
      readies = λ root. ready_count-grows c.n e root (heard_by heard) (heard_by (heard ++ more)) grows;
      value = λ root value gives. value_more c e heard more root value gives;
    }

-- what is idle by all that was heard was idle before
pub idle_early : (c : Numbers) (i j e : ℕ) (own : List Vote) (heard more : List Hearing) → AreSound c
    → IsIdle (broadcast_slots c i j e) own (heard ++ more) → IsIdle (broadcast_slots c i j e) own heard
idle_early c i j e own heard more sound = broadcast_carried c i j e own (heard ++ more) heard sound (more_carries c i j heard more)
