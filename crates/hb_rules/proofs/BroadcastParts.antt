-- The slots of the broadcast look at votes and hearings of their epoch's broadcast alone, and their votes fill them.
use Rattle.std.proofs.Common.{◌≡◌, ℕ, ◌+◌, ◌-◌, ◌*◌, ◌<◌, Bool, true, false, ◌&&◌, ◌||◌, ◌==◌, nat_le, List, [], ◌∷◌, ◌++◌, Contains, Option, None, Some, take, if◌then◌else◌, refl, sym, ap, ◌∙◌}
use Rattle.std.specs.Str.{bytes_eq}
use Rattle.std.specs.List.{AllByRecursion, list_any, filter}
use Rattle.std.specs.Option.{option_map, option_or, option_and_then, is_some}
use Rattle.std.proofs.lemmas.Bool.{both_ways, eqb-true, eq-eqb, and_parts, or_left, or_right, or_parts, and_from, true_from_ne_false}
use Rattle.std.proofs.lemmas.List.Folds.{list_any-append}
use Rattle.std.proofs.lemmas.Option.{option_and_then_some, cond_some}
use Rattle.hb_base.specs.Numbers.{Numbers}
use Rattle.hb_wire.specs.declared.vote.Vote.{Vote}
use Rattle.hb_wire.specs.declared.vote.Vote.TheVariants.{Val, Echo, Ready, Delivered}
use Rattle.merkle_branch.specs.declared.Branch.{Branch}
use Rattle.merkle_branch.specs.Branches.{is_branch}
use Rattle.rs_shards.specs.Completing.{encoded}
use Rattle.hb_rules.specs.Claims.{proposed, echoed, readied, has_root, are_these, is_val_to, is_echo, is_any_echo, is_ready, is_any_ready, is_any_delivery, is_any_proposal}
use Rattle.hb_rules.specs.Hearing.{Hearing, heard_by}
use Rattle.hb_rules.specs.Code.{data_count, echo_count, ready_count}
use Rattle.hb_rules.specs.FirstShown.{firsts_shown}
use Rattle.hb_rules.specs.Slots.{Slot, first_of, IsPart, IsGuarded, IsForgetful, AreRows}
use Rattle.hb_rules.specs.Turns.{IsPlain}
use Rattle.hb_rules.specs.Tested.{IsTested}
use Rattle.hb_rules.specs.Parts.{in_broadcast, heard_in_broadcast}
use Rattle.hb_rules.specs.BroadcastRows.{proposal_in, val_of, val_slot, echo_made, echo_in, echo_slot, shard_of, shards_of, value_through, value_of, named, is_made_ready, ready_made, ready_slot, delivery_made, delivery_slot, broadcast_rows}
use Rattle.hb_rules.specs.Owing.{broadcast_slots}
use Rattle.hb_rules.proofs.Counts.{count_nodes-same}
use Rattle.hb_rules.proofs.Lists.{AllByRecursion-each, any_within, first_within, first_agree, filter_map_within, IsSource, first_source, none_if_not_some}
use Rattle.hb_rules.proofs.Rows.{of_epoch-hold}

-- ---- what each slot makes

-- a value that was mapped
pub record IsMapped {A B : Type 0} (f : A → B) (o : Option A) (y : B) : Type 0 where
  pub value : A
  pub was : o ≡ Some value
  pub is : f value ≡ y

pub mapped : {A B : Type 0} (f : A → B) (o : Option A) (y : B) → option_map f o ≡ Some y → IsMapped f o y
mapped f None y h = absurd (cc (h))
mapped f (Some x) y h = record { value = x; was = refl; is = cc }

-- shard m of the value that was proposed, if the lane is the node's own
pub record IsValMade (c : Numbers) (i j e m : ℕ) (heard : List Hearing) (vote : Vote) : Type 0 where
  pub own : i ≡ j
  pub value : List ℕ
  pub was : first_of (proposal_in i e) heard ≡ Some value
  pub is : val_of e m (encoded c.n (data_count c) value) ≡ vote

pub val_made : (c : Numbers) (i j e m : ℕ) (own : List Vote) (heard : List Hearing) (vote : Vote) → (val_slot c i j e m).choice own heard ≡ Some vote
    → IsValMade c i j e m heard vote
unfolding val_slot
val_made c i j e m own heard vote h = by (i == j) refl h
  where
    by : (b : Bool) → (i == j) ≡ b
        → (if b then option_map (λ value. val_of e m (encoded c.n (data_count c) value)) (first_of (proposal_in i e) heard) else None) ≡ Some vote
        → IsValMade c i j e m heard vote
    by true same h =
        let made = mapped (λ value. val_of e m (encoded c.n (data_count c) value)) (first_of (proposal_in i e) heard) vote h in
        record { own = eqb-true i j same; value = made.value; was = made.was; is = made.is }
    by false same h = absurd (cc (h))

-- what the Echo of a vote repeats
pub record IsEchoMade (n e i : ℕ) (vote echo : Vote) : Type 0 where
  pub root : List ℕ
  pub shard : List ℕ
  pub branch : Branch
  pub was : vote ≡ Val e i root shard branch
  pub valid : is_branch root n i shard branch ≡ true
  pub is : Echo e root shard branch ≡ echo

pub echo_made-is : (n e i : ℕ) (vote echo : Vote) → echo_made n e i vote ≡ Some echo → IsEchoMade n e i vote echo
echo_made-is n e i (Val d m root shard branch) echo h =
    let chosen = cond_some ((d == e) && ((m == i) && is_branch root n i shard branch)) (Echo e root shard branch) echo h in
    let tests = and_parts (d == e) ((m == i) && is_branch root n i shard branch) chosen.0 in
    let others = and_parts (m == i) (is_branch root n i shard branch) tests.1 in
    record {
      root = root;
      shard = shard;
      branch = branch;
      was = ap (λ (x : ℕ). Val x m root shard branch) (eqb-true d e tests.0) ∙ ap (λ (y : ℕ). Val e y root shard branch) (eqb-true m i others.0);
      valid = others.1;
      is = chosen.1;
    }
echo_made-is n e i vote echo h = absurd (cc (h))

-- where an Echo comes from
pub record IsEchoFrom (n e i j : ℕ) (heard : List Hearing) (echo : Vote) : Type 0 where
  pub hearing : Hearing
  pub stands : Contains heard hearing
  pub from : hearing.from ≡ j
  pub made : IsEchoMade n e i hearing.vote echo

pub echo_from : (c : Numbers) (i j e : ℕ) (own : List Vote) (heard : List Hearing) (vote : Vote) → (echo_slot c i j e).choice own heard ≡ Some vote
    → IsEchoFrom c.n e i j heard vote
unfolding echo_slot
echo_from c i j e own heard vote h = by source.element source.stands (source.element.from == j) refl source.gives
  where
    source : IsSource (echo_in c.n e i j) heard vote
    source = first_source (echo_in c.n e i j) heard vote h

    by : (g : Hearing) → Contains heard g → (b : Bool) → (g.from == j) ≡ b → (if b then echo_made c.n e i g.vote else None) ≡ Some vote
        → IsEchoFrom c.n e i j heard vote
    by g stands true same gives = record { hearing = g; stands = stands; from = eqb-true g.from j same; made = echo_made-is c.n e i g.vote vote gives }
    by g stands false same gives = absurd (cc (gives))

-- a vote that was made of a root that was named
pub record IsMadeOf (c : Numbers) (e : ℕ) (made : List ℕ → Option Vote) (heard : List Hearing) (vote : Vote) : Type 0 where
  pub hearing : Hearing
  pub stands : Contains heard hearing
  pub root : List ℕ
  pub names : named c.n e hearing ≡ Some root
  pub gives : made root ≡ Some vote

pub made_of : (c : Numbers) (e : ℕ) (made : List ℕ → Option Vote) (heard : List Hearing) (vote : Vote)
    → first_of (λ h. option_and_then made (named c.n e h)) heard ≡ Some vote → IsMadeOf c e made heard vote
made_of c e made heard vote h =
    let source = first_source (λ (h : Hearing). option_and_then made (named c.n e h)) heard vote h in
    option_and_then_some made (named c.n e source.element) vote source.gives
    (λ root names gives. record { hearing = source.element; stands = source.stands; root = root; names = names; gives = gives })

pub ready_from : (c : Numbers) (e : ℕ) (own : List Vote) (heard : List Hearing) (vote : Vote) → (ready_slot c e).choice own heard ≡ Some vote
    → IsMadeOf c e (ready_made c e heard) heard vote
unfolding ready_slot
ready_from c e own heard vote h = made_of c e (ready_made c e heard) heard vote h

pub delivery_from : (c : Numbers) (e : ℕ) (own : List Vote) (heard : List Hearing) (vote : Vote) → (delivery_slot c e).choice own heard ≡ Some vote
    → IsMadeOf c e (delivery_made c e heard) heard vote
unfolding delivery_slot
delivery_from c e own heard vote h = made_of c e (delivery_made c e heard) heard vote h

pub ready_made-is : (c : Numbers) (e : ℕ) (heard : List Hearing) (root : List ℕ) (vote : Vote) → ready_made c e heard root ≡ Some vote
    → (is_made_ready c e heard root ≡ true) × (Ready e root ≡ vote)
ready_made-is c e heard root vote h = cond_some (is_made_ready c e heard root) (Ready e root) vote h

-- a delivery of the value that a root's shards rebuild to
pub record IsDeliveryMade (c : Numbers) (e : ℕ) (heard : List Hearing) (root : List ℕ) (vote : Vote) : Type 0 where
  pub enough : nat_le (2 * c.f + 1) (ready_count c.n e root (heard_by heard)) ≡ true
  pub value : List ℕ
  pub was : value_of c e heard root ≡ Some value
  pub is : Delivered e value ≡ vote

pub delivery_made-is : (c : Numbers) (e : ℕ) (heard : List Hearing) (root : List ℕ) (vote : Vote) → delivery_made c e heard root ≡ Some vote
    → IsDeliveryMade c e heard root vote
delivery_made-is c e heard root vote h = by (nat_le (2 * c.f + 1) (ready_count c.n e root (heard_by heard))) refl h
  where
    by : (b : Bool) → nat_le (2 * c.f + 1) (ready_count c.n e root (heard_by heard)) ≡ b
        → (if b then option_map (Delivered e) (value_of c e heard root) else None) ≡ Some vote → IsDeliveryMade c e heard root vote
    by true enough h =
        let made = mapped (Delivered e) (value_of c e heard root) vote h in
        record { enough = enough; value = made.value; was = made.was; is = made.is }
    by false enough h = absurd (cc (h))

-- ---- votes of the epoch's broadcast

pub some_only : {A : Type 0} (b : Bool) (x : A) → is_some (if b then Some x else None) ≡ true → b ≡ true
some_only true x h = refl
some_only false x h = absurd (cc (h))

val_inside : (e m : ℕ) (vote : Vote) → is_val_to e m vote ≡ true → in_broadcast e vote ≡ true
val_inside e m (Val d target root shard branch) h = (and_parts (d == e) (target == m) h).0
val_inside e m vote h = absurd (cc (h))

echo_inside : (e : ℕ) (vote : Vote) → is_any_echo e vote ≡ true → in_broadcast e vote ≡ true
echo_inside e (Echo d root shard branch) h = h
echo_inside e vote h = absurd (cc (h))

ready_inside : (e : ℕ) (vote : Vote) → is_any_ready e vote ≡ true → in_broadcast e vote ≡ true
ready_inside e (Ready d root) h = some_only (d == e) root h
ready_inside e vote h = absurd (cc (h))

delivery_inside : (e : ℕ) (vote : Vote) → is_any_delivery e vote ≡ true → in_broadcast e vote ≡ true
delivery_inside e (Delivered d value) h = some_only (d == e) value h
delivery_inside e vote h = absurd (cc (h))

pub echoed-outside : (n e m : ℕ) (vote : Vote) → in_broadcast e vote ≡ false → echoed n e m vote ≡ None
echoed-outside n e m (Echo d root shard branch) outside = let other : (d == e) ≡ false = outside in rw other refl
echoed-outside n e m vote outside = refl

pub readied-outside : (e : ℕ) (vote : Vote) → in_broadcast e vote ≡ false → readied e vote ≡ None
readied-outside e (Ready d root) outside = let other : (d == e) ≡ false = outside in rw other refl
readied-outside e vote outside = refl

echo_made-outside : (n e i : ℕ) (vote : Vote) → in_broadcast e vote ≡ false → echo_made n e i vote ≡ None
echo_made-outside n e i (Val d m root shard branch) outside = let other : (d == e) ≡ false = outside in rw other refl
echo_made-outside n e i vote outside = refl

is_echo-inside : (n e : ℕ) (root : List ℕ) (m : ℕ) (vote : Vote) → is_echo n e root m vote ≡ true → in_broadcast e vote ≡ true
is_echo-inside n e root m vote h =
    true_from_ne_false (in_broadcast e vote) (λ outside. both_ways (is_echo n e root m vote) (ap (has_root root) (echoed-outside n e m vote outside)) h)

is_ready-inside : (e : ℕ) (root : List ℕ) (vote : Vote) → is_ready e root vote ≡ true → in_broadcast e vote ≡ true
is_ready-inside e root vote h =
    true_from_ne_false (in_broadcast e vote) (λ outside. both_ways (is_ready e root vote) (ap (are_these root) (readied-outside e vote outside)) h)

-- ---- hearings of the epoch's broadcast

vote_outside : (e : ℕ) (h : Hearing) → heard_in_broadcast e h ≡ false → in_broadcast e h.vote ≡ false
vote_outside e h outside = (or_parts (in_broadcast e h.vote) (is_any_proposal e h.vote) outside).0

proposal_outside : (i e : ℕ) (h : Hearing) → heard_in_broadcast e h ≡ false → proposal_in i e h ≡ None
proposal_outside i e h outside = by (h.from == i) (none_if_not_some (proposed e h.vote) (or_parts (in_broadcast e h.vote) (is_any_proposal e h.vote) outside).1)
  where
    by : (b : Bool) → proposed e h.vote ≡ None → (if b then proposed e h.vote else None) ≡ None
    by true none = none
    by false none = refl

echo_outside : (n e i j : ℕ) (h : Hearing) → heard_in_broadcast e h ≡ false → echo_in n e i j h ≡ None
echo_outside n e i j h outside = by (h.from == j) (echo_made-outside n e i h.vote (vote_outside e h outside))
  where
    by : (b : Bool) → echo_made n e i h.vote ≡ None → (if b then echo_made n e i h.vote else None) ≡ None
    by true none = none
    by false none = refl

shard_outside : (n e : ℕ) (root : List ℕ) (h : Hearing) → heard_in_broadcast e h ≡ false → shard_of n e root h ≡ None
shard_outside n e root h outside =
    ap (option_and_then (λ (part : List ℕ × List ℕ). if bytes_eq root part.0 then Some (h.from, part.1) else None))
    (echoed-outside n e h.from h.vote (vote_outside e h outside))

named_outside : (n e : ℕ) (h : Hearing) → heard_in_broadcast e h ≡ false → named n e h ≡ None
named_outside n e h outside =
    ap (λ (o : Option (List ℕ × List ℕ)). option_or (option_map (λ part. part.0) o) (readied e h.vote))
    (echoed-outside n e h.from h.vote (vote_outside e h outside))
    ∙ readied-outside e h.vote (vote_outside e h outside)

heard_by-within : (e : ℕ) (heard : List Hearing) (a : ℕ) (test : Vote → Bool) → ((vote : Vote) → test vote ≡ true → in_broadcast e vote ≡ true)
    → heard_by heard a test ≡ heard_by (filter (heard_in_broadcast e) heard) a test
heard_by-within e heard a test inside =
    sym (any_within (λ (h : Hearing). (h.from == a) && test h.vote) (heard_in_broadcast e)
    (λ h passes. or_left (in_broadcast e h.vote) (is_any_proposal e h.vote) (inside h.vote (and_parts (h.from == a) (test h.vote) passes).1)) heard)

echo_count-within : (n e : ℕ) (heard : List Hearing) (root : List ℕ)
    → echo_count n e root (heard_by heard) ≡ echo_count n e root (heard_by (filter (heard_in_broadcast e) heard))
echo_count-within n e heard root =
    count_nodes-same n (λ a. heard_by heard a (is_echo n e root a)) (λ a. heard_by (filter (heard_in_broadcast e) heard) a (is_echo n e root a))
    (λ a. heard_by-within e heard a (is_echo n e root a) (is_echo-inside n e root a))

ready_count-within : (n e : ℕ) (heard : List Hearing) (root : List ℕ)
    → ready_count n e root (heard_by heard) ≡ ready_count n e root (heard_by (filter (heard_in_broadcast e) heard))
ready_count-within n e heard root =
    count_nodes-same n (λ a. heard_by heard a (is_ready e root)) (λ a. heard_by (filter (heard_in_broadcast e) heard) a (is_ready e root))
    (λ a. heard_by-within e heard a (is_ready e root) (is_ready-inside e root))

shards_of-within : (n e : ℕ) (heard : List Hearing) (root : List ℕ)
    → shards_of n e root heard ≡ shards_of n e root (filter (heard_in_broadcast e) heard)
shards_of-within n e heard root =
    ap (λ (xs : List (ℕ × List ℕ)). firsts_shown xs) (sym (filter_map_within (shard_of n e root) (heard_in_broadcast e) (shard_outside n e root) heard))

-- a root's votes, by counts and shards
ready_by : Numbers → ℕ → List ℕ → ℕ → ℕ → List (ℕ × List ℕ) → Option Vote
ready_by c e root echoes readies shards =
    if (nat_le (c.n - c.f) echoes && is_some (value_through c root (take (data_count c) shards))) || nat_le (c.f + 1) readies then Some (Ready e root) else None

delivery_by : Numbers → ℕ → List ℕ → ℕ → List (ℕ × List ℕ) → Option Vote
delivery_by c e root readies shards =
    if nat_le (2 * c.f + 1) readies then option_map (Delivered e) (value_through c root (take (data_count c) shards)) else None

ready_made-within : (c : Numbers) (e : ℕ) (heard : List Hearing) (root : List ℕ)
    → ready_made c e heard root ≡ ready_made c e (filter (heard_in_broadcast e) heard) root
unfolding ready_by
ready_made-within c e heard root =
    let part : List Hearing = filter (heard_in_broadcast e) heard in
    let echoes : ℕ = echo_count c.n e root (heard_by part) in
    let readies : ℕ = ready_count c.n e root (heard_by part) in
    ap (λ (k : ℕ). ready_by c e root k (ready_count c.n e root (heard_by heard)) (shards_of c.n e root heard)) (echo_count-within c.n e heard root)
    ∙ ap (λ (k : ℕ). ready_by c e root echoes k (shards_of c.n e root heard)) (ready_count-within c.n e heard root)
    ∙ ap (λ (xs : List (ℕ × List ℕ)). ready_by c e root echoes readies xs) (shards_of-within c.n e heard root)

delivery_made-within : (c : Numbers) (e : ℕ) (heard : List Hearing) (root : List ℕ)
    → delivery_made c e heard root ≡ delivery_made c e (filter (heard_in_broadcast e) heard) root
unfolding delivery_by
delivery_made-within c e heard root =
    let part : List Hearing = filter (heard_in_broadcast e) heard in
    let readies : ℕ = ready_count c.n e root (heard_by part) in
    ap (λ (k : ℕ). delivery_by c e root k (shards_of c.n e root heard)) (ready_count-within c.n e heard root)
    ∙ ap (λ (xs : List (ℕ × List ℕ)). delivery_by c e root readies xs) (shards_of-within c.n e heard root)

then_agree : {A B : Type 0} (f g : A → Option B) → ((x : A) → f x ≡ g x) → (o : Option A) → option_and_then f o ≡ option_and_then g o
then_agree f g agree None = refl
then_agree f g agree (Some x) = agree x

-- the first vote that a named root makes, where what it makes looks at the broadcast alone
named-within : (c : Numbers) (e : ℕ) (made : List Hearing → List ℕ → Option Vote)
    → ((heard : List Hearing) (root : List ℕ) → made heard root ≡ made (filter (heard_in_broadcast e) heard) root) → (heard : List Hearing)
    → first_of (λ h. option_and_then (made heard) (named c.n e h)) heard
    ≡ first_of (λ h. option_and_then (made (filter (heard_in_broadcast e) heard)) (named c.n e h)) (filter (heard_in_broadcast e) heard)
named-within c e made within heard =
    let part : List Hearing = filter (heard_in_broadcast e) heard in
    sym (first_within (λ (h : Hearing). option_and_then (made heard) (named c.n e h)) (heard_in_broadcast e)
    (λ h outside. ap (option_and_then (made heard)) (named_outside c.n e h outside)) heard)
    ∙ first_agree (λ (h : Hearing). option_and_then (made heard) (named c.n e h)) (λ (h : Hearing). option_and_then (made part) (named c.n e h))
    (λ h. then_agree (made heard) (made part) (within heard) (named c.n e h)) part

-- ---- parts

pub val_slot-part : (c : Numbers) (i j e m : ℕ) → IsPart (in_broadcast e) (heard_in_broadcast e) (in_broadcast e) (val_slot c i j e m)
unfolding val_slot
val_slot-part c i j e m = record {
  cast = λ own. sym (any_within (is_val_to e m) (in_broadcast e) (val_inside e m) own);
  choice = λ own heard.
      ap (λ (o : Option (List ℕ)). if i == j then option_map (λ value. val_of e m (encoded c.n (data_count c) value)) o else None)
      (sym (first_within (proposal_in i e) (heard_in_broadcast e) (proposal_outside i e) heard));
  made = λ own heard vote some. ap (in_broadcast e) (sym (val_made c i j e m own heard vote some).is) ∙ eq-eqb e e refl;
}

pub echo_slot-part : (c : Numbers) (i j e : ℕ) → IsPart (in_broadcast e) (heard_in_broadcast e) (in_broadcast e) (echo_slot c i j e)
unfolding echo_slot
echo_slot-part c i j e = record {
  cast = λ own. sym (any_within (is_any_echo e) (in_broadcast e) (echo_inside e) own);
  choice = λ own heard. sym (first_within (echo_in c.n e i j) (heard_in_broadcast e) (echo_outside c.n e i j) heard);
  made = λ own heard vote some. ap (in_broadcast e) (sym (echo_from c i j e own heard vote some).made.is) ∙ eq-eqb e e refl;
}

pub ready_slot-part : (c : Numbers) (e : ℕ) → IsPart (in_broadcast e) (heard_in_broadcast e) (in_broadcast e) (ready_slot c e)
unfolding ready_slot
ready_slot-part c e = record {
  cast = λ own. sym (any_within (is_any_ready e) (in_broadcast e) (ready_inside e) own);
  choice = λ own heard. named-within c e (ready_made c e) (ready_made-within c e) heard;
  made = λ own heard vote some.
      let made = ready_from c e own heard vote some in
      ap (in_broadcast e) (sym (ready_made-is c e heard made.root vote made.gives).1) ∙ eq-eqb e e refl;
}

pub delivery_slot-part : (c : Numbers) (e : ℕ) → IsPart (in_broadcast e) (heard_in_broadcast e) (in_broadcast e) (delivery_slot c e)
unfolding delivery_slot
delivery_slot-part c e = record {
  cast = λ own. sym (any_within (is_any_delivery e) (in_broadcast e) (delivery_inside e) own);
  choice = λ own heard. named-within c e (delivery_made c e) (delivery_made-within c e) heard;
  made = λ own heard vote some.
      let made = delivery_from c e own heard vote some in
      ap (in_broadcast e) (sym (delivery_made-is c e heard made.root vote made.gives).is) ∙ eq-eqb e e refl;
}

-- ---- plain slots

pub any_filled : (test : Vote → Bool) (own : List Vote) (vote : Vote) → test vote ≡ true → list_any test (own ++ vote ∷ []) ≡ true
any_filled test own vote passes =
    list_any-append test own (vote ∷ []) ∙ or_right (list_any test own) (list_any test (vote ∷ [])) (or_left (test vote) false passes)

pub any_stays : (test : Vote → Bool) (own more : List Vote) → list_any test own ≡ true → list_any test (own ++ more) ≡ true
any_stays test own more h = list_any-append test own more ∙ or_left (list_any test own) (list_any test more) h

pub val_slot-plain : (c : Numbers) (i j e m : ℕ) → IsPlain (val_slot c i j e m)
unfolding val_slot
val_slot-plain c i j e m = record {
  guarded = record {
    filled = λ own heard vote some.
        any_filled (is_val_to e m) own vote
        (ap (is_val_to e m) (sym (val_made c i j e m own heard vote some).is) ∙ and_from (e == e) (m == m) (eq-eqb e e refl) (eq-eqb m m refl));
    stays = any_stays (is_val_to e m);
  };
  free = λ own other heard. refl;
}

pub echo_slot-plain : (c : Numbers) (i j e : ℕ) → IsPlain (echo_slot c i j e)
unfolding echo_slot
echo_slot-plain c i j e = record {
  guarded = record {
    filled = λ own heard vote some.
        any_filled (is_any_echo e) own vote (ap (is_any_echo e) (sym (echo_from c i j e own heard vote some).made.is) ∙ eq-eqb e e refl);
    stays = any_stays (is_any_echo e);
  };
  free = λ own other heard. refl;
}

pub some_where : {A : Type 0} (b : Bool) (x : A) → b ≡ true → is_some (if b then Some x else None) ≡ true
some_where true x h = refl
some_where false x h = absurd (cc (h))

pub ready_slot-plain : (c : Numbers) (e : ℕ) → IsPlain (ready_slot c e)
unfolding ready_slot
ready_slot-plain c e = record {
  guarded = record {
    filled = λ own heard vote some.
        let made = ready_from c e own heard vote some in
        any_filled (is_any_ready e) own vote
        (ap (is_any_ready e) (sym (ready_made-is c e heard made.root vote made.gives).1) ∙ some_where (e == e) made.root (eq-eqb e e refl));
    stays = any_stays (is_any_ready e);
  };
  free = λ own other heard. refl;
}

pub delivery_slot-plain : (c : Numbers) (e : ℕ) → IsPlain (delivery_slot c e)
unfolding delivery_slot
delivery_slot-plain c e = record {
  guarded = record {
    filled = λ own heard vote some.
        let made = delivery_from c e own heard vote some in
        let delivery = delivery_made-is c e heard made.root vote made.gives in
        any_filled (is_any_delivery e) own vote
        (ap (is_any_delivery e) (sym delivery.is) ∙ some_where (e == e) delivery.value (eq-eqb e e refl));
    stays = any_stays (is_any_delivery e);
  };
  free = λ own other heard. refl;
}

-- ---- own votes count by tests alone

pub val_slot-tested : (c : Numbers) (i j e m : ℕ) → IsTested (val_slot c i j e m)
unfolding val_slot
val_slot-tested c i j e m = record { cast = λ own other same. same.tests (is_val_to e m); choice = λ own other heard same. refl }

pub echo_slot-tested : (c : Numbers) (i j e : ℕ) → IsTested (echo_slot c i j e)
unfolding echo_slot
echo_slot-tested c i j e = record { cast = λ own other same. same.tests (is_any_echo e); choice = λ own other heard same. refl }

pub ready_slot-tested : (c : Numbers) (e : ℕ) → IsTested (ready_slot c e)
unfolding ready_slot
ready_slot-tested c e = record { cast = λ own other same. same.tests (is_any_ready e); choice = λ own other heard same. refl }

pub delivery_slot-tested : (c : Numbers) (e : ℕ) → IsTested (delivery_slot c e)
unfolding delivery_slot
delivery_slot-tested c e = record { cast = λ own other same. same.tests (is_any_delivery e); choice = λ own other heard same. refl }

-- ---- where nothing was heard, nothing is made

pub val_slot-forgets : (c : Numbers) (i j e m : ℕ) → IsForgetful (val_slot c i j e m)
unfolding val_slot
val_slot-forgets c i j e m = record { forgets = λ own heard none. by (i == j) }
  where
    by : (b : Bool) → (if b then option_map (λ value. val_of e m (encoded c.n (data_count c) value)) None else None) ≡ None
    by true = refl
    by false = refl

pub echo_slot-forgets : (c : Numbers) (i j e : ℕ) → IsForgetful (echo_slot c i j e)
unfolding echo_slot
echo_slot-forgets c i j e = record { forgets = λ own heard none. refl }

pub ready_slot-forgets : (c : Numbers) (e : ℕ) → IsForgetful (ready_slot c e)
unfolding ready_slot
ready_slot-forgets c e = record { forgets = λ own heard none. refl }

pub delivery_slot-forgets : (c : Numbers) (e : ℕ) → IsForgetful (delivery_slot c e)
unfolding delivery_slot
delivery_slot-forgets c e = record { forgets = λ own heard none. refl }

-- ---- all slots of the rows

-- what holds of the slots of each kind holds of all
pub rows_hold : (P : ℕ → Slot Vote Hearing → Type 0) (c : Numbers) (i j : ℕ)
    → ((e m : ℕ) → m < c.n → P e (val_slot c i j e m)) → ((e : ℕ) → P e (echo_slot c i j e)) → ((e : ℕ) → P e (ready_slot c e))
    → ((e : ℕ) → P e (delivery_slot c e))
    → AllByRecursion (λ row. (e : ℕ) → AllByRecursion (P e) (row e)) (broadcast_rows c i j)
rows_hold P c i j vals echo ready delivery = (
  λ e. AllByRecursion-each (P e) c.n (λ m. val_slot c i j e m ∷ []) (λ m below. (vals e m below, tt)),
  (λ e. (echo e, tt), (λ e. (ready e, tt), (λ e. (delivery e, tt), tt))),
)

pub slots_hold : (P : ℕ → Slot Vote Hearing → Type 0) (c : Numbers) (i j e : ℕ)
    → AllByRecursion (λ row. (e : ℕ) → AllByRecursion (P e) (row e)) (broadcast_rows c i j) → AllByRecursion (P e) (broadcast_slots c i j e)
slots_hold P c i j e all = of_epoch-hold P e (broadcast_rows c i j) all

pub broadcast-parts : (c : Numbers) (i j : ℕ) → AreRows in_broadcast heard_in_broadcast in_broadcast (broadcast_rows c i j)
broadcast-parts c i j =
    rows_hold (λ e slot. IsPart (in_broadcast e) (heard_in_broadcast e) (in_broadcast e) slot) c i j
    (λ e m below. val_slot-part c i j e m) (λ e. echo_slot-part c i j e) (λ e. ready_slot-part c e) (λ e. delivery_slot-part c e)

pub broadcast-plain : (c : Numbers) (i j : ℕ) → AllByRecursion (λ row. (e : ℕ) → AllByRecursion IsPlain (row e)) (broadcast_rows c i j)
broadcast-plain c i j =
    rows_hold (λ e slot. IsPlain slot) c i j
    (λ e m below. val_slot-plain c i j e m) (λ e. echo_slot-plain c i j e) (λ e. ready_slot-plain c e) (λ e. delivery_slot-plain c e)

pub broadcast-guarded : (c : Numbers) (i j : ℕ) → AllByRecursion (λ row. (e : ℕ) → AllByRecursion IsGuarded (row e)) (broadcast_rows c i j)
broadcast-guarded c i j =
    rows_hold (λ e slot. IsGuarded slot) c i j
    (λ e m below. (val_slot-plain c i j e m).guarded) (λ e. (echo_slot-plain c i j e).guarded)
    (λ e. (ready_slot-plain c e).guarded) (λ e. (delivery_slot-plain c e).guarded)

pub broadcast-forgets : (c : Numbers) (i j : ℕ) → AllByRecursion (λ row. (e : ℕ) → AllByRecursion IsForgetful (row e)) (broadcast_rows c i j)
broadcast-forgets c i j =
    rows_hold (λ e slot. IsForgetful slot) c i j
    (λ e m below. val_slot-forgets c i j e m) (λ e. echo_slot-forgets c i j e) (λ e. ready_slot-forgets c e) (λ e. delivery_slot-forgets c e)

pub broadcast-tested : (c : Numbers) (i j : ℕ) → AllByRecursion (λ row. (e : ℕ) → AllByRecursion IsTested (row e)) (broadcast_rows c i j)
broadcast-tested c i j =
    rows_hold (λ e slot. IsTested slot) c i j
    (λ e m below. val_slot-tested c i j e m) (λ e. echo_slot-tested c i j e) (λ e. ready_slot-tested c e) (λ e. delivery_slot-tested c e)
