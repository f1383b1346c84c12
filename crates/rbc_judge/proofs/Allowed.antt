-- The tests tell what a lane may cast in a broadcast.
use Rattle.std.proofs.Common.{◌≡◌, ◌↔◌, ℕ, ◌+◌, ◌-◌, ◌*◌, ◌<◌, ◌≤◌, nat_lt, nat_le, Bool, true, not, ◌&&◌, ◌||◌, ◌==◌, inl, inr, List, [], Contains, Option, None, Some, length, get_or, refl, sym, ap, ap₂, ◌∙◌, subst, arith, bytes_eq}
use Rattle.std.specs.Prelude.{slice_index_or}
use Rattle.std.specs.List.{list_any}
use Rattle.std.specs.Option.{is_some}
use Rattle.std.proofs.lemmas.Bool.{eqb-true, eq-eqb, lt-ltb, le-leb, leb-true, and_parts, and_from, or_cases, or_left, or_right, not-true, not_from_false}
use Rattle.std.proofs.lemmas.List.Elements.{recursion_from_All}
use Rattle.std.proofs.lemmas.Option.{slice_get-get_or, get_or_from_slice_get}
use Rattle.std.proofs.lemmas.Slice.Eq.{bytes_eq-Decides}
use Rattle.hb_base.specs.ByteLists.{AreBytes}
use Rattle.hb_base.specs.NodeSet.{is_in}
use Rattle.hb_base.specs.Numbers.{Numbers, AreSound}
use Rattle.hb_wire.specs.declared.vote.Vote.{Vote}
use Rattle.hb_wire.specs.declared.vote.Vote.TheVariants.{Val, Echo, Ready, Delivered, Propose}
use Rattle.hb_wire.proofs.Equality.{one_vote}
use Rattle.merkle_branch.specs.declared.Branch.{Branch}
use Rattle.merkle_branch.specs.Branches.{is_branch, branch_of}
use Rattle.merkle_branch.specs.Digests.{tree_root, leaf_digests}
use Rattle.merkle_branch.proofs.Tested.{is_branch-Decides}
use Rattle.rs_shards.specs.Completing.{IsEncoding, encoded}
use Rattle.rs_shards.specs.Frame.{framed_value}
use Rattle.rs_shards.proofs.Encodings.{encoded-encoding, encoding-only}
use Rattle.hb_rules.specs.Broadcast.{IsProposedShard, MayBroadcast}
use Rattle.hb_rules.specs.BroadcastRows.{val_of, value_of, is_made_ready}
use Rattle.hb_rules.specs.Claims.{proposed, echoed, readied, are_these, has_root, has_both, is_val_to, is_any_echo, is_any_ready, is_any_delivery, is_ready, is_echo, is_shard_echo}
use Rattle.hb_rules.specs.Code.{data_count, IsCodedShard, AreEchoes, AreEchoed, HasDelivery, echo_count, ready_count}
use Rattle.hb_rules.specs.Hearing.{Hearing, hearing, heard_by, heard_in}
use Rattle.hb_rules.specs.Same.{same_vote}
use Rattle.hb_rules.specs.Terms.{AreHeardSpelled}
use Rattle.hb_rules.proofs.Among.{any_stands, Grows, heard_by-grows, AreEchoed-grows}
use Rattle.hb_rules.proofs.BroadcastSlots.{heard_spelled, proposed-is}
use Rattle.hb_rules.proofs.Counts.{correct_member}
use Rattle.hb_rules.proofs.FirstShares.{counted}
use Rattle.hb_rules.proofs.FirstShards.{value_given, data_count-some, data_count-within, few_nodes}
use Rattle.hb_rules.proofs.Lists.{list_any-from}
use Rattle.hb_rules.proofs.Said.{few_liars}
use Rattle.rbc_world.proofs.Binding.{echoed-bound, one_codeword}
use Rattle.rbc_progress.proofs.Codewords.{value_there}
use Rattle.hb_rules.specs.Apart.{IsHeardApart}
use Rattle.rbc_judge.specs.Tests.{is_part, is_source, is_carried, is_carried_by, is_delivered_by}

-- ---- votes of a node that were heard

heard_vote : (j : ℕ) (vote : Vote) (heard : List Hearing) → (heard_by heard j (same_vote vote) ≡ true) ↔ Contains heard (hearing j vote)
heard_vote j vote heard = (
  λ yes.
      let found = any_stands (λ (h : Hearing). (h.from == j) && same_vote vote h.vote) heard yes in
      let parts = and_parts (found.0.from == j) (same_vote vote found.0.vote) found.2 in
      let from : found.0.from ≡ j = eqb-true found.0.from j parts.0 in
      let same : found.0.vote ≡ vote = sym ((one_vote vote found.0.vote).0 parts.1) in
      subst (λ (v : Vote). Contains heard (hearing j v)) same (subst (λ (a : ℕ). Contains heard (hearing a found.0.vote)) from found.1),
  λ stands.
      list_any-from (λ (h : Hearing). (h.from == j) && same_vote vote h.vote) heard (hearing j vote) stands
      (and_from (j == j) (same_vote vote vote) (eq-eqb j j refl) ((one_vote vote vote).1 refl)),
)

-- ---- Val

-- the Val to a node of a value is the one with this root, shard and branch
abbrev IsVal : Numbers → ℕ → ℕ → List ℕ → List ℕ → List ℕ → Branch → Type 0
IsVal c e m value root shard branch = val_of e m (encoded c.n (data_count c) value) ≡ Val e m root shard branch

coded_val : (c : Numbers) (e m : ℕ) (value root shard : List ℕ) (branch : Branch) → AreSound c → IsCodedShard c value m root shard branch
    → IsVal c e m value root shard branch
coded_val c e m value root shard branch sound coded =
    let only : coded.shards ≡ encoded c.n (data_count c) value =
    encoding-only c.n (data_count c) value coded.shards (data_count-some c sound) (data_count-within c) (few_nodes c sound) coded.encoding in
    let one : tree_root (encoded c.n (data_count c) value) ≡ root = ap tree_root (sym only) ∙ coded.root_is in
    let two : slice_index_or (encoded c.n (data_count c) value) m [] ≡ shard =
    ap (λ (shards : List (List ℕ)). slice_index_or shards m []) (sym only) ∙ get_or_from_slice_get coded.shards m shard [] coded.shard_is in
    let three : branch_of (leaf_digests (encoded c.n (data_count c) value)) m ≡ branch =
    ap (λ (shards : List (List ℕ)). branch_of (leaf_digests shards) m) (sym only) ∙ coded.branch_is in
    λ i. Val e m (one i) (two i) (three i)

val_coded : (c : Numbers) (e m : ℕ) (value root shard : List ℕ) (branch : Branch) → AreSound c → m < c.n → AreBytes value
    → IsVal c e m value root shard branch → IsCodedShard c value m root shard branch
val_coded c e m value root shard branch sound inside bytes is =
    let shards : List (List ℕ) = encoded c.n (data_count c) value in
    let encoding : IsEncoding c.n (data_count c) value shards =
    encoded-encoding c.n (data_count c) value (data_count-some c sound) (data_count-within c) (few_nodes c sound) bytes in
    let one : tree_root shards ≡ root = cc (is) in
    let two : slice_index_or shards m [] ≡ shard = cc (is) in
    let three : branch_of (leaf_digests shards) m ≡ branch = cc (is) in
    record {
      shards = shards;
      encoding = encoding;
      root_is = one;
      shard_is = slice_get-get_or shards m [] (omega (arith, encoding.codeword.count, inside)) ∙ ap (λ (s : List ℕ). Some s) two;
      branch_is = three;
    }

source_stands : (c : Numbers) (i e m : ℕ) (root shard : List ℕ) (branch : Branch) (heard : List Hearing) → AreSound c → m < c.n
    → AreHeardSpelled c heard → list_any (is_source c i e m (Val e m root shard branch)) heard ≡ true
    → IsProposedShard c i e heard m root shard branch
source_stands c i e m root shard branch heard sound inside spelled told =
    let found = any_stands (is_source c i e m (Val e m root shard branch)) heard told in
    let parts = and_parts (found.0.from == i) (is_part c e m (proposed e found.0.vote) (Val e m root shard branch)) found.2 in
    by found.0 found.1 (eqb-true found.0.from i parts.0) (proposed e found.0.vote) refl parts.1
  where
    by : (h : Hearing) → Contains heard h → h.from ≡ i → (o : Option (List ℕ)) → proposed e h.vote ≡ o
        → is_part c e m o (Val e m root shard branch) ≡ true → IsProposedShard c i e heard m root shard branch
    by h stands from None is told = absurd (cc (told))
    by h stands from (Some value) is told =
        let vote : h.vote ≡ Propose e value = proposed-is e h.vote value is in
        let there : Contains heard (hearing i (Propose e value)) = subst (λ (g : Hearing). Contains heard g) (ap₂ hearing from vote) stands in
        let bytes : AreBytes value = (heard_spelled c heard spelled (hearing i (Propose e value)) there).fields.0.2 in
        record {
          value = value;
          proposed = there;
          coded = val_coded c e m value root shard branch sound inside bytes
              ((one_vote (val_of e m (encoded c.n (data_count c) value)) (Val e m root shard branch)).0 told);
        }

source_found : (c : Numbers) (i e m : ℕ) (root shard : List ℕ) (branch : Branch) (heard : List Hearing) → AreSound c
    → IsProposedShard c i e heard m root shard branch → list_any (is_source c i e m (Val e m root shard branch)) heard ≡ true
source_found c i e m root shard branch heard sound shown =
    let here : (e == e) ≡ true = eq-eqb e e refl in
    let part : is_part c e m (proposed e (Propose e shown.value)) (Val e m root shard branch) ≡ true =
    rw here ((one_vote (val_of e m (encoded c.n (data_count c) shown.value)) (Val e m root shard branch)).1
    (coded_val c e m shown.value root shard branch sound shown.coded)) in
    list_any-from (is_source c i e m (Val e m root shard branch)) heard (hearing i (Propose e shown.value)) shown.proposed
    (and_from (i == i) (is_part c e m (proposed e (Propose e shown.value)) (Val e m root shard branch)) (eq-eqb i i refl) part)

pub may_send : (c : Numbers) (i j e m : ℕ) (root shard : List ℕ) (branch : Branch) (own : List Vote) (heard : List Hearing) → AreSound c → m < c.n
    → AreHeardSpelled c heard
    → ((((i == j) && not (list_any (is_val_to e m) own)) && list_any (is_source c i e m (Val e m root shard branch)) heard) ≡ true)
    ↔ MayBroadcast c i j own heard (Val e m root shard branch)
may_send c i j e m root shard branch own heard sound inside spelled = (
  λ yes.
      let parts = and_parts ((i == j) && not (list_any (is_val_to e m) own)) (list_any (is_source c i e m (Val e m root shard branch)) heard) yes in
      let first = and_parts (i == j) (not (list_any (is_val_to e m) own)) parts.0 in (
        eqb-true i j first.0,
        source_stands c i e m root shard branch heard sound inside spelled parts.1,
        not-true (list_any (is_val_to e m) own) first.1,
      ),
  λ may.
      and_from ((i == j) && not (list_any (is_val_to e m) own)) (list_any (is_source c i e m (Val e m root shard branch)) heard)
      (and_from (i == j) (not (list_any (is_val_to e m) own)) (eq-eqb i j may.0) (not_from_false (list_any (is_val_to e m) own) may.2))
      (source_found c i e m root shard branch heard sound may.1),
)

-- ---- Echo

pub may_echo : (c : Numbers) (i j e : ℕ) (root shard : List ℕ) (branch : Branch) (own : List Vote) (heard : List Hearing)
    → (((not (list_any (is_any_echo e) own) && is_branch root c.n i shard branch) && heard_by heard j (same_vote (Val e i root shard branch))) ≡ true)
    ↔ MayBroadcast c i j own heard (Echo e root shard branch)
may_echo c i j e root shard branch own heard =
    let valid = is_branch-Decides root c.n i shard branch in
    let shown = heard_vote j (Val e i root shard branch) heard in (
      λ yes.
          let parts = and_parts (not (list_any (is_any_echo e) own) && is_branch root c.n i shard branch) (heard_by heard j (same_vote (Val e i root shard branch))) yes in
          let first = and_parts (not (list_any (is_any_echo e) own)) (is_branch root c.n i shard branch) parts.0 in
          (shown.0 parts.1, valid.0 first.1, not-true (list_any (is_any_echo e) own) first.0),
      λ may.
          and_from (not (list_any (is_any_echo e) own) && is_branch root c.n i shard branch) (heard_by heard j (same_vote (Val e i root shard branch)))
          (and_from (not (list_any (is_any_echo e) own)) (is_branch root c.n i shard branch) (not_from_false (list_any (is_any_echo e) own) may.2) (valid.1 may.1))
          (shown.1 may.0),
    )

-- ---- one codeword

some_value : {A : Type 0} (o : Option A) → is_some o ≡ true → (x : A) × (o ≡ Some x)
some_value None h = absurd (cc (h))
some_value (Some x) h = (x, refl)

-- all of it is heard in the history
apart_grows : (c : Numbers) (i j : ℕ) (heard : List Hearing) → (from : IsHeardApart c i j heard)
    → Grows (heard_by heard) (heard_by (heard_in c i j from.history))
apart_grows c i j heard from = heard_by-grows heard (heard_in c i j from.history) from.among

-- Echoes that rebuild to the root are among those that are heard in the history
apart_echoed : (c : Numbers) (i j e : ℕ) (root : List ℕ) (heard : List Hearing) (shards : List (List ℕ)) → (from : IsHeardApart c i j heard)
    → AreEchoed c.n (data_count c) e root (heard_by heard) shards
    → AreEchoed c.n (data_count c) e root (heard_by (heard_in c i j from.history)) shards
apart_echoed c i j e root heard shards from echoed =
    AreEchoed-grows c.n (data_count c) e root (heard_by heard) (heard_by (heard_in c i j from.history)) shards (apart_grows c i j heard from) echoed

-- the value to which the first shards rebuild, where some k rebuild to the root
value_some : (c : Numbers) (i j e : ℕ) (root : List ℕ) (heard : List Hearing) (shards : List (List ℕ)) → AreSound c → IsHeardApart c i j heard
    → AreEchoed c.n (data_count c) e root (heard_by heard) shards → data_count c ≤ echo_count c.n e root (heard_by heard)
    → is_some (value_of c e heard root) ≡ true
value_some c i j e root heard shards sound from echoed enough =
    value_there c j e root from.history sound from.apart
    (echoed-bound c i j e root from.history shards from.correct (apart_echoed c i j e root heard shards from echoed))
    i heard from.correct (apart_grows c i j heard from) enough

-- it is the value of these
value_same : (c : Numbers) (i j e : ℕ) (root value : List ℕ) (heard : List Hearing) (shards : List (List ℕ)) → AreSound c → IsHeardApart c i j heard
    → AreEchoed c.n (data_count c) e root (heard_by heard) shards → value_of c e heard root ≡ Some value → value ≡ framed_value (data_count c) shards
value_same c i j e root value heard shards sound from echoed is =
    let given = value_given c sound e heard root value is in
    let first = apart_echoed c i j e root heard given.shards from given.echoed in
    let second = apart_echoed c i j e root heard shards from echoed in
    let one = one_codeword c j e root from.history sound from.apart (echoed-bound c i j e root from.history shards from.correct second) in
    let these : given.shards ≡ one.shards =
    one.only first.got given.shards (record { node = i; correct = from.correct; echoes = first.echoes }) first.rebuilt in
    let those : shards ≡ one.shards =
    one.only second.got shards (record { node = i; correct = from.correct; echoes = second.echoes }) second.rebuilt in
    sym given.value_is ∙ ap (framed_value (data_count c)) (these ∙ sym those)

-- ---- Ready

pub may_be_ready : (c : Numbers) (i j e : ℕ) (root : List ℕ) (own : List Vote) (heard : List Hearing) → AreSound c
    → (not (list_any (is_any_ready e) own) && is_made_ready c e heard root) ≡ true → MayBroadcast c i j own heard (Ready e root)
may_be_ready c i j e root own heard sound told =
    let parts = and_parts (not (list_any (is_any_ready e) own)) (is_made_ready c e heard root) told in
    let quorum : Bool = nat_le (c.n - c.f) (echo_count c.n e root (heard_by heard)) in
    let rebuilds : Bool = is_some (value_of c e heard root) in
    let readies : Bool = nat_le (c.f + 1) (ready_count c.n e root (heard_by heard)) in (
      elim (or_cases (quorum && rebuilds) readies parts.1) [
        | inl both ↦
            let tests = and_parts quorum rebuilds both in
            let value = some_value (value_of c e heard root) tests.1 in
            let given = value_given c sound e heard root value.0 value.1 in
            inl (record {
              echoes = leb-true (c.n - c.f) (echo_count c.n e root (heard_by heard)) tests.0;
              shards = given.shards;
              echoed = given.echoed;
            })
        | inr enough ↦ inr (leb-true (c.f + 1) (ready_count c.n e root (heard_by heard)) enough)
      ],
      not-true (list_any (is_any_ready e) own) parts.0,
    )

pub must_be_ready : (c : Numbers) (i j e : ℕ) (root : List ℕ) (own : List Vote) (heard : List Hearing) → AreSound c → IsHeardApart c i j heard
    → MayBroadcast c i j own heard (Ready e root) → (not (list_any (is_any_ready e) own) && is_made_ready c e heard root) ≡ true
must_be_ready c i j e root own heard sound from may =
    let quorum : Bool = nat_le (c.n - c.f) (echo_count c.n e root (heard_by heard)) in
    let rebuilds : Bool = is_some (value_of c e heard root) in
    let readies : Bool = nat_le (c.f + 1) (ready_count c.n e root (heard_by heard)) in
    and_from (not (list_any (is_any_ready e) own)) ((quorum && rebuilds) || readies) (not_from_false (list_any (is_any_ready e) own) may.1)
    (elim may.0 [
      | inl has ↦
          let enough : data_count c ≤ echo_count c.n e root (heard_by heard) = omega (arith, has.echoes) in
          or_left (quorum && rebuilds) readies
          (and_from quorum rebuilds (le-leb (c.n - c.f) (echo_count c.n e root (heard_by heard)) has.echoes)
          (value_some c i j e root heard has.shards sound from has.echoed enough))
      | inr many ↦ or_right (quorum && rebuilds) readies (le-leb (c.f + 1) (ready_count c.n e root (heard_by heard)) many)
    ])

-- ---- Delivered

carried_stands : (c : Numbers) (e : ℕ) (root value : List ℕ) (heard : List Hearing) → AreSound c → is_carried c e heard value root ≡ true
    → HasDelivery c e value (heard_by heard)
carried_stands c e root value heard sound told =
    let parts = and_parts (nat_le (2 * c.f + 1) (ready_count c.n e root (heard_by heard))) (are_these value (value_of c e heard root)) told in
    by (value_of c e heard root) refl parts.1 (leb-true (2 * c.f + 1) (ready_count c.n e root (heard_by heard)) parts.0)
  where
    by : (o : Option (List ℕ)) → value_of c e heard root ≡ o → are_these value o ≡ true
        → 2 * c.f + 1 ≤ ready_count c.n e root (heard_by heard) → HasDelivery c e value (heard_by heard)
    by None is these many = absurd (cc (these))
    by (Some other) is these many =
        let given = value_given c sound e heard root other is in
        record {
          root = root;
          readies = many;
          shards = given.shards;
          echoed = given.echoed;
          value_is = given.value_is ∙ sym ((bytes_eq-Decides value other).0 these);
        }

pub may_deliver : (c : Numbers) (i j e : ℕ) (value : List ℕ) (own : List Vote) (heard : List Hearing) → AreSound c
    → (not (list_any (is_any_delivery e) own) && list_any (is_delivered_by c e heard value) heard) ≡ true
    → MayBroadcast c i j own heard (Delivered e value)
may_deliver c i j e value own heard sound told =
    let parts = and_parts (not (list_any (is_any_delivery e) own)) (list_any (is_delivered_by c e heard value) heard) told in
    let found = any_stands (is_delivered_by c e heard value) heard parts.1 in
    let tests = and_parts (nat_lt found.0.from c.n && not (is_in c.liars found.0.from)) (is_carried_by c e heard value (readied e found.0.vote)) found.2 in
    (by (readied e found.0.vote) tests.1, not-true (list_any (is_any_delivery e) own) parts.0)
  where
    by : (o : Option (List ℕ)) → is_carried_by c e heard value o ≡ true → HasDelivery c e value (heard_by heard)
    by None carried = absurd (cc (carried))
    by (Some root) carried = carried_stands c e root value heard sound carried

-- a valid Echo with a shard is one for its root
shard_echo-echo : (n e a : ℕ) (root shard : List ℕ) (heard : List Hearing) → heard_by heard a (is_shard_echo n e root a shard) ≡ true
    → heard_by heard a (is_echo n e root a) ≡ true
shard_echo-echo n e a root shard heard shown =
    let found = any_stands (λ (h : Hearing). (h.from == a) && is_shard_echo n e root a shard h.vote) heard shown in
    let parts = and_parts (found.0.from == a) (is_shard_echo n e root a shard found.0.vote) found.2 in
    list_any-from (λ (h : Hearing). (h.from == a) && is_echo n e root a h.vote) heard found.0 found.1
    (and_from (found.0.from == a) (is_echo n e root a found.0.vote) parts.0 (by (echoed n e a found.0.vote) parts.1))
  where
    by : (o : Option (List ℕ × List ℕ)) → has_both root shard o ≡ true → has_root root o ≡ true
    by None both = absurd (cc (both))
    by (Some part) both = (and_parts (bytes_eq root part.0) (bytes_eq shard part.1) both).0

-- k valid Echoes are of k nodes
echoes_counted : (n k e : ℕ) (root : List ℕ) (heard : List Hearing) (got : List (ℕ × List ℕ)) → AreEchoes n k e root (heard_by heard) got
    → k ≤ echo_count n e root (heard_by heard)
echoes_counted n k e root heard got echoes =
    let many : length got ≤ echo_count n e root (heard_by heard) =
    counted (λ (x : ℕ × List ℕ). x.0) n (λ a. heard_by heard a (is_echo n e root a)) got
    (recursion_from_All (λ (x : ℕ × List ℕ). (x.0 < n) × (heard_by heard x.0 (is_echo n e root x.0) ≡ true)) got
    (λ i d below. (
      echoes.shards.within i d below,
      shard_echo-echo n e (get_or got i d).0 root (get_or got i d).1 heard (echoes.each i d below),
    ))) echoes.shards.distinct in
    omega (arith, many, echoes.enough)

carried_found : (c : Numbers) (i j e : ℕ) (value : List ℕ) (heard : List Hearing) → AreSound c → IsHeardApart c i j heard
    → (has : HasDelivery c e value (heard_by heard)) → is_carried c e heard value has.root ≡ true
carried_found c i j e value heard sound from has =
    let enough : data_count c ≤ echo_count c.n e has.root (heard_by heard) =
    echoes_counted c.n (data_count c) e has.root heard has.echoed.got has.echoed.echoes in
    let other = some_value (value_of c e heard has.root) (value_some c i j e has.root heard has.shards sound from has.echoed enough) in
    let same : other.0 ≡ value = value_same c i j e has.root other.0 heard has.shards sound from has.echoed other.1 ∙ has.value_is in
    and_from (nat_le (2 * c.f + 1) (ready_count c.n e has.root (heard_by heard))) (are_these value (value_of c e heard has.root))
    (le-leb (2 * c.f + 1) (ready_count c.n e has.root (heard_by heard)) has.readies)
    (ap (are_these value) other.1 ∙ (bytes_eq-Decides value other.0).1 (sym same))

pub must_deliver : (c : Numbers) (i j e : ℕ) (value : List ℕ) (own : List Vote) (heard : List Hearing) → AreSound c → IsHeardApart c i j heard
    → MayBroadcast c i j own heard (Delivered e value)
    → (not (list_any (is_any_delivery e) own) && list_any (is_delivered_by c e heard value) heard) ≡ true
must_deliver c i j e value own heard sound from may =
    let has = may.0 in
    let node = correct_member c.n c.f (is_in c.liars) (λ a. heard_by heard a (is_ready e has.root)) (few_liars c sound) (omega (arith, has.readies)) in
    let found = any_stands (λ (h : Hearing). (h.from == node.0) && is_ready e has.root h.vote) heard node.2 in
    let parts = and_parts (found.0.from == node.0) (is_ready e has.root found.0.vote) found.2 in
    let a : found.0.from ≡ node.0 = eqb-true found.0.from node.0 parts.0 in
    let inside : nat_lt found.0.from c.n ≡ true = lt-ltb found.0.from c.n (omega (arith, a, node.1)) in
    let correct : not (is_in c.liars found.0.from) ≡ true = not_from_false (is_in c.liars found.0.from) (ap (is_in c.liars) a ∙ node.3) in
    and_from (not (list_any (is_any_delivery e) own)) (list_any (is_delivered_by c e heard value) heard) (not_from_false (list_any (is_any_delivery e) own) may.1)
    (list_any-from (is_delivered_by c e heard value) heard found.0 found.1
    (and_from (nat_lt found.0.from c.n && not (is_in c.liars found.0.from)) (is_carried_by c e heard value (readied e found.0.vote))
    (and_from (nat_lt found.0.from c.n) (not (is_in c.liars found.0.from)) inside correct)
    (by has (readied e found.0.vote) parts.1)))
  where
    by : (has : HasDelivery c e value (heard_by heard)) → (o : Option (List ℕ)) → are_these has.root o ≡ true → is_carried_by c e heard value o ≡ true
    by has None these = absurd (cc (these))
    by has (Some root) these =
        subst (λ (r : List ℕ). is_carried c e heard value r ≡ true) ((bytes_eq-Decides has.root root).0 these) (carried_found c i j e value heard sound from has)

-- a vote that is a Val
pub send_told : (c : Numbers) (i j e m : ℕ) (root shard : List ℕ) (branch : Branch) (own : List Vote) (heard : List Hearing) → AreSound c → m < c.n
    → AreHeardSpelled c heard → (vote : Vote) → vote ≡ Val e m root shard branch
    → ((((i == j) && not (list_any (is_val_to e m) own)) && list_any (is_source c i e m vote) heard) ≡ true) ↔ MayBroadcast c i j own heard vote
send_told c i j e m root shard branch own heard sound inside spelled vote is =
    subst (λ (v : Vote). ((((i == j) && not (list_any (is_val_to e m) own)) && list_any (is_source c i e m v) heard) ≡ true) ↔ MayBroadcast c i j own heard v)
    (sym is) (may_send c i j e m root shard branch own heard sound inside spelled)
