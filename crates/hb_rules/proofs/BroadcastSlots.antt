-- What a lane owes in the broadcast may be cast, one vote after another, whatever more is heard later, and has a spelling.
use Rattle.std.proofs.Common.{◌≡◌, ℕ, ◌+◌, ◌-◌, ◌*◌, ◌<◌, ◌≤◌, Bool, true, false, ◌&&◌, ◌==◌, nat_lt, nat_le, inl, inr, List, [], ◌∷◌, ◌++◌, Contains, Option, None, Some, length, take, drop, get_or, if◌then◌else◌, refl, ap, ap₂, ◌∙◌, subst, arith}
use Rattle.std.specs.List.{AllByRecursion, concat, list_all}
use Rattle.std.specs.Option.{option_map, option_or, is_some}
use Rattle.std.proofs.lemmas.Bool.{eqb-true, leb-true, and_parts, or_cases}
use Rattle.std.proofs.lemmas.List.{length-take}
use Rattle.std.proofs.lemmas.List.Elements.{All-nil, All-append, All-take, All-drop, recursion_from_All}
use Rattle.std.proofs.lemmas.Option.{cond_some, slice_get-get_or}
use Rattle.hb_base.specs.ByteLists.{AreBytes}
use Rattle.hb_base.specs.Limits.{longest_value}
use Rattle.hb_base.specs.Numbers.{Numbers, AreSound}
use Rattle.hb_wire.specs.declared.vote.Vote.{Vote}
use Rattle.hb_wire.specs.declared.vote.Vote.TheVariants.{Val, Echo, Ready, Propose}
use Rattle.merkle_branch.specs.declared.Branch.{Branch}
use Rattle.merkle_branch.specs.Branches.{is_branch, branch_of, IsPath}
use Rattle.merkle_branch.specs.Digests.{tree_root, leaf_digests}
use Rattle.merkle_branch.proofs.Paths.{root_long, branch_path}
use Rattle.merkle_branch.proofs.Tested.{is_branch-is}
use Rattle.rs_shards.specs.Codeword.{IsCodeword, data_of}
use Rattle.rs_shards.specs.Frame.{is_frame, stated_length, value_in}
use Rattle.rs_shards.specs.Completing.{IsEncoding, encoded}
use Rattle.rs_shards.proofs.Encodings.{encoded-encoding, some-encoding, short-encoding, bytes-encoding}
use Rattle.rs_shards.proofs.Unique.{codeword-all_bytes}
use Rattle.hb_rules.specs.Claims.{proposed, echoed, readied}
use Rattle.hb_rules.specs.Hearing.{Hearing, hearing, heard_by}
use Rattle.hb_rules.specs.History.{HasSpelling}
use Rattle.hb_rules.specs.Code.{data_count, IsCodedShard, HasQuorum, echo_count, ready_count}
use Rattle.hb_rules.specs.Broadcast.{MayBroadcast}
use Rattle.hb_rules.specs.Slots.{pass, first_of, IsIdle, IsOwed}
use Rattle.hb_rules.specs.Turns.{IsPlain, InTurn, IsAllowedBy}
use Rattle.hb_rules.specs.BroadcastRows.{proposal_in, val_slot, echo_slot, value_of, named, ready_made, ready_slot, delivery_made, delivery_slot, broadcast_rows}
use Rattle.hb_rules.specs.Owing.{broadcast_slots}
use Rattle.hb_rules.specs.Terms.{AreHeardSpelled, AreSpelled, AreAmong}
use Rattle.hb_rules.proofs.Lists.{AllByRecursion-contains, first_source, IsSource}
use Rattle.hb_rules.proofs.Passing.{pass-InTurn, pass-rests, IsOwed-pass, HasMade, pass-all}
use Rattle.hb_rules.proofs.Among.{MayBroadcast-among}
use Rattle.hb_rules.proofs.FirstShards.{value_given, data_count-some, data_count-within, few_nodes}
use Rattle.hb_rules.proofs.BroadcastParts.{IsMadeOf, val_made, echo_from, ready_from, ready_made-is, delivery_from, delivery_made-is, rows_hold, slots_hold, broadcast-plain}

-- ---- what votes were, by their claims

pub proposed-is : (e : ℕ) (vote : Vote) (value : List ℕ) → proposed e vote ≡ Some value → vote ≡ Propose e value
proposed-is e (Propose d v) value h =
    let chosen = cond_some (d == e) v value h in
    ap₂ Propose (eqb-true d e chosen.0) chosen.1
proposed-is e vote value h = absurd (cc (h))

pub readied-is : (e : ℕ) (vote : Vote) (root : List ℕ) → readied e vote ≡ Some root → vote ≡ Ready e root
readied-is e (Ready d r) root h =
    let chosen = cond_some (d == e) r root h in
    ap₂ Ready (eqb-true d e chosen.0) chosen.1
readied-is e vote root h = absurd (cc (h))

-- the Echo that shows a root and a shard
pub record IsEchoOf (e : ℕ) (vote : Vote) (part : List ℕ × List ℕ) : Type 0 where
  pub branch : Branch
  pub is : vote ≡ Echo e part.0 part.1 branch

pub echoed-is : (n e m : ℕ) (vote : Vote) (part : List ℕ × List ℕ) → echoed n e m vote ≡ Some part → IsEchoOf e vote part
echoed-is n e m (Echo d root shard branch) part h =
    let chosen = cond_some ((d == e) && (nat_lt m n && is_branch root n m shard branch)) (root, shard) part h in
    let same : d ≡ e = eqb-true d e (and_parts (d == e) (nat_lt m n && is_branch root n m shard branch) chosen.0).0 in
    record {
      branch = branch;
      is = ap (λ (x : ℕ). Echo x root shard branch) same ∙ ap (λ (p : List ℕ × List ℕ). Echo e p.0 p.1 branch) chosen.1;
    }
echoed-is n e m vote part h = absurd (cc (h))

-- ---- what was heard

pub heard_spelled : (c : Numbers) (heard : List Hearing) → AreHeardSpelled c heard → (h : Hearing) → Contains heard h → HasSpelling c h.vote
heard_spelled c heard spelled h stands = AllByRecursion-contains (λ (h : Hearing). HasSpelling c h.vote) heard h spelled stands

-- the first proposal that was heard was heard
record IsProposal (c : Numbers) (i e : ℕ) (heard : List Hearing) (value : List ℕ) : Type 0 where
  stands : Contains heard (hearing i (Propose e value))
  spelled : HasSpelling c (Propose e value)

proposal_heard : (c : Numbers) (i e : ℕ) (heard : List Hearing) (value : List ℕ) → AreHeardSpelled c heard
    → first_of (proposal_in i e) heard ≡ Some value
    → IsProposal c i e heard value
proposal_heard c i e heard value spelled first = by source.element source.stands (source.element.from == i) refl source.gives
  where
    source : IsSource (proposal_in i e) heard value
    source = first_source (proposal_in i e) heard value first

    by : (g : Hearing) → Contains heard g → (b : Bool) → (g.from == i) ≡ b → (if b then proposed e g.vote else None) ≡ Some value
        → IsProposal c i e heard value
    by g stands true same gives =
        let is : g.vote ≡ Propose e value = proposed-is e g.vote value gives in
        record {
          stands = subst (λ (h : Hearing). Contains heard h) (ap₂ hearing (eqb-true g.from i same) is) stands;
          spelled = subst (HasSpelling c) is (heard_spelled c heard spelled g stands);
        }
    by g stands false same gives = absurd (cc (gives))

-- ---- owed votes may be cast

value_encoding : (c : Numbers) → AreSound c → (value : List ℕ) → AreBytes value
    → IsEncoding c.n (data_count c) value (encoded c.n (data_count c) value)
value_encoding c sound value bytes =
    encoded-encoding c.n (data_count c) value (data_count-some c sound) (data_count-within c) (few_nodes c sound) bytes

coded : (c : Numbers) → AreSound c → (value : List ℕ) (m : ℕ) → m < c.n → AreBytes value
    → IsCodedShard c value m (tree_root (encoded c.n (data_count c) value)) (get_or (encoded c.n (data_count c) value) m [])
    (branch_of (leaf_digests (encoded c.n (data_count c) value)) m)
coded c sound value m below bytes =
    let shards : List (List ℕ) = encoded c.n (data_count c) value in
    let encoding : IsEncoding c.n (data_count c) value shards = value_encoding c sound value bytes in
    record {
      shards = shards;
      encoding = encoding;
      root_is = refl;
      shard_is = slice_get-get_or shards m [] (omega (arith, encoding.codeword.count));
      branch_is = refl;
    }

pub val_slot-allowed : (c : Numbers) → AreSound c → (i j e m : ℕ) → m < c.n → (some all : List Hearing) → AreHeardSpelled c some → AreAmong some all
    → IsAllowedBy (λ own vote. MayBroadcast c i j own all vote) some (val_slot c i j e m)
unfolding val_slot
val_slot-allowed c sound i j e m below some all spelled among = record {
  allowed = λ own vote empty h.
      let made = val_made c i j e m own some vote h in
      let proposal = proposal_heard c i e some made.value spelled made.was in
      MayBroadcast-among c i j own some all vote among
      (subst (λ (vote : Vote). MayBroadcast c i j own some vote) made.is (
        made.own,
        record { value = made.value; proposed = proposal.stands; coded = coded c sound made.value m below proposal.spelled.fields.0.2 },
        empty,
      ));
}

pub echo_slot-allowed : (c : Numbers) (i j e : ℕ) (some all : List Hearing) → AreAmong some all
    → IsAllowedBy (λ own vote. MayBroadcast c i j own all vote) some (echo_slot c i j e)
unfolding echo_slot
echo_slot-allowed c i j e some all among = record {
  allowed = λ own vote empty h.
      let from = echo_from c i j e own some vote h in
      MayBroadcast-among c i j own some all vote among
      (subst (λ (vote : Vote). MayBroadcast c i j own some vote) from.made.is (
        subst (λ (h : Hearing). Contains some h) (ap₂ hearing from.from from.made.was) from.stands,
        is_branch-is from.made.root c.n i from.made.shard from.made.branch from.made.valid,
        empty,
      ));
}

-- the value, where there is one
some_value : {A : Type 0} (o : Option A) → is_some o ≡ true → (x : A) × (o ≡ Some x)
some_value None h = absurd (cc (h))
some_value (Some x) h = (x, refl)

quorum_given : (c : Numbers) → AreSound c → (e : ℕ) (heard : List Hearing) (root : List ℕ)
    → nat_le (c.n - c.f) (echo_count c.n e root (heard_by heard)) ≡ true
    → is_some (value_of c e heard root) ≡ true → HasQuorum c e root (heard_by heard)
quorum_given c sound e heard root enough rebuilds =
    let value = some_value (value_of c e heard root) rebuilds in
    let given = value_given c sound e heard root value.0 value.1 in
    record {
      echoes = leb-true (c.n - c.f) (echo_count c.n e root (heard_by heard)) enough;
      shards = given.shards;
      echoed = given.echoed;
    }

pub ready_slot-allowed : (c : Numbers) → AreSound c → (i j e : ℕ) (some all : List Hearing) → AreAmong some all
    → IsAllowedBy (λ own vote. MayBroadcast c i j own all vote) some (ready_slot c e)
unfolding ready_slot
ready_slot-allowed c sound i j e some all among = record {
  allowed = λ own vote empty h.
      let made = ready_from c e own some vote h in
      let ready = ready_made-is c e some made.root vote made.gives in
      let quorum : Bool = nat_le (c.n - c.f) (echo_count c.n e made.root (heard_by some)) in
      let rebuilds : Bool = is_some (value_of c e some made.root) in
      let readies : Bool = nat_le (c.f + 1) (ready_count c.n e made.root (heard_by some)) in
      MayBroadcast-among c i j own some all vote among
      (subst (λ (vote : Vote). MayBroadcast c i j own some vote) ready.1 (
        elim (or_cases (quorum && rebuilds) readies ready.0) [
          | inl both ↦ let parts = and_parts quorum rebuilds both in inl (quorum_given c sound e some made.root parts.0 parts.1)
          | inr enough ↦ inr (leb-true (c.f + 1) (ready_count c.n e made.root (heard_by some)) enough)
        ],
        empty,
      ));
}

pub delivery_slot-allowed : (c : Numbers) → AreSound c → (i j e : ℕ) (some all : List Hearing) → AreAmong some all
    → IsAllowedBy (λ own vote. MayBroadcast c i j own all vote) some (delivery_slot c e)
unfolding delivery_slot
delivery_slot-allowed c sound i j e some all among = record {
  allowed = λ own vote empty h.
      let made = delivery_from c e own some vote h in
      let delivery = delivery_made-is c e some made.root vote made.gives in
      let given = value_given c sound e some made.root delivery.value delivery.was in
      MayBroadcast-among c i j own some all vote among
      (subst (λ (vote : Vote). MayBroadcast c i j own some vote) delivery.is (
        record {
          root = made.root;
          readies = leb-true (2 * c.f + 1) (ready_count c.n e made.root (heard_by some)) delivery.enough;
          shards = given.shards;
          echoed = given.echoed;
          value_is = given.value_is;
        },
        empty,
      ));
}

-- by rows, for all epochs
pub broadcast-allowed : (c : Numbers) → AreSound c → (i j : ℕ) (some all : List Hearing) → AreHeardSpelled c some → AreAmong some all
    → AllByRecursion (λ row. (e : ℕ) → AllByRecursion (IsAllowedBy (λ own vote. MayBroadcast c i j own all vote) some) (row e)) (broadcast_rows c i j)
broadcast-allowed c sound i j some all spelled among =
    rows_hold (λ e slot. IsAllowedBy (λ own vote. MayBroadcast c i j own all vote) some slot) c i j
    (λ e m below. val_slot-allowed c sound i j e m below some all spelled among) (λ e. echo_slot-allowed c i j e some all among)
    (λ e. ready_slot-allowed c sound i j e some all among) (λ e. delivery_slot-allowed c sound i j e some all among)

-- what a lane owes in the broadcast it may cast in turn
pub broadcast_in_turn : (c : Numbers) → AreSound c → (i j e : ℕ) (own : List Vote) (some all : List Hearing) → AreHeardSpelled c some
    → AreAmong some all
    → InTurn (λ own vote. MayBroadcast c i j own all vote) own (pass (broadcast_slots c i j e) own some)
broadcast_in_turn c sound i j e own some all spelled among =
    pass-InTurn (λ own vote. MayBroadcast c i j own all vote) some (broadcast_slots c i j e)
    (slots_hold (λ e slot. IsAllowedBy (λ own vote. MayBroadcast c i j own all vote) some slot) c i j e
    (broadcast-allowed c sound i j some all spelled among)) own

-- ---- one pass rests

pub broadcast-rests : (c : Numbers) (i j e : ℕ) (own : List Vote) (heard : List Hearing)
    → IsIdle (broadcast_slots c i j e) (own ++ pass (broadcast_slots c i j e) own heard) heard
broadcast-rests c i j e own heard =
    pass-rests (broadcast_slots c i j e) (slots_hold (λ e slot. IsPlain slot) c i j e (broadcast-plain c i j)) own heard

pub broadcast-owed : (c : Numbers) (i j e : ℕ) (own : List Vote) (heard : List Hearing)
    → IsOwed (broadcast_slots c i j e) own heard (pass (broadcast_slots c i j e) own heard)
broadcast-owed c i j e own heard = IsOwed-pass (broadcast_slots c i j e) own heard (broadcast-rests c i j e own heard)

-- ---- owed votes have spellings

pub val_slot-spelled : (c : Numbers) → AreSound c → (i j e m : ℕ) → m < c.n → (heard : List Hearing) → AreHeardSpelled c heard
    → HasMade (HasSpelling c) heard (val_slot c i j e m)
val_slot-spelled c sound i j e m below heard spelled = record {
  has = λ own vote h.
      let made = val_made c i j e m own heard vote h in
      let proposal = proposal_heard c i e heard made.value spelled made.was in
      let k : ℕ = data_count c in
      let shards : List (List ℕ) = encoded c.n k made.value in
      let fits = proposal.spelled.fields.0 in
      let encoding : IsEncoding c.n k made.value shards = value_encoding c sound made.value fits.2 in
      let some : 1 ≤ k = data_count-some c sound in
      let within : k ≤ c.n = data_count-within c in
      let few : c.n ≤ 256 = few_nodes c sound in
      let inside : m < length shards = omega (arith, encoding.codeword.count) in
      subst (HasSpelling c) made.is (record {
        begun = proposal.spelled.begun;
        built = proposal.spelled.built;
        epoch = proposal.spelled.epoch;
        fields = (
          below,
          (
            root_long shards,
            (
              (
                some-encoding c.n k made.value shards some within few encoding m [] inside,
                short-encoding c.n k made.value shards some within few encoding fits.1 m [] inside,
                bytes-encoding c.n k made.value shards some within few encoding m [] inside,
              ),
              (subst (λ (n : ℕ). IsPath n (branch_of (leaf_digests shards) m)) encoding.codeword.count (branch_path shards m), tt),
            ),
          ),
        );
      });
}

pub echo_slot-spelled : (c : Numbers) (i j e : ℕ) (heard : List Hearing) → AreHeardSpelled c heard → HasMade (HasSpelling c) heard (echo_slot c i j e)
echo_slot-spelled c i j e heard spelled = record {
  has = λ own vote h.
      let from = echo_from c i j e own heard vote h in
      let val : HasSpelling c (Val e i from.made.root from.made.shard from.made.branch) =
      subst (HasSpelling c) from.made.was (heard_spelled c heard spelled from.hearing from.stands) in
      subst (HasSpelling c) from.made.is (record { begun = val.begun; built = val.built; epoch = val.epoch; fields = val.fields.1 });
}

-- a root that was named by a vote with a spelling
named_spelled : (c : Numbers) (e : ℕ) (h : Hearing) (root : List ℕ) → HasSpelling c h.vote → named c.n e h ≡ Some root → HasSpelling c (Ready e root)
named_spelled c e h root spelled names = by (echoed c.n e h.from h.vote) refl names
  where
    by : (o : Option (List ℕ × List ℕ)) → echoed c.n e h.from h.vote ≡ o → option_or (option_map (λ part. part.0) o) (readied e h.vote) ≡ Some root
        → HasSpelling c (Ready e root)
    by None is names = subst (HasSpelling c) (readied-is e h.vote root names) spelled
    by (Some part) is names =
        let echo = echoed-is c.n e h.from h.vote part is in
        let fits : HasSpelling c (Echo e part.0 part.1 echo.branch) = subst (HasSpelling c) echo.is spelled in
        let same : part.0 ≡ root = cc in
        subst (λ (root : List ℕ). HasSpelling c (Ready e root)) same
        (record { begun = fits.begun; built = fits.built; epoch = fits.epoch; fields = (fits.fields.0, tt) })

made_spelled : (c : Numbers) (e : ℕ) (made : List ℕ → Option Vote) (heard : List Hearing) (vote : Vote) → AreHeardSpelled c heard
    → (of : IsMadeOf c e made heard vote) → HasSpelling c (Ready e of.root)
made_spelled c e made heard vote spelled of =
    named_spelled c e of.hearing of.root (heard_spelled c heard spelled of.hearing of.stands) of.names

pub ready_slot-spelled : (c : Numbers) (e : ℕ) (heard : List Hearing) → AreHeardSpelled c heard → HasMade (HasSpelling c) heard (ready_slot c e)
ready_slot-spelled c e heard spelled = record {
  has = λ own vote h.
      let made = ready_from c e own heard vote h in
      let ready = ready_made-is c e heard made.root vote made.gives in
      subst (HasSpelling c) ready.1 (made_spelled c e (ready_made c e heard) heard vote spelled made);
}

-- the value in a frame is no longer than a value may be, and consists of bytes where the frame does
short_take : (n : ℕ) (xs : List ℕ) → length (take n xs) ≤ n
short_take n xs = omega (arith, length-take n xs)

frame_short : (k : ℕ) (bytes : List ℕ) → is_frame k bytes ≡ true → stated_length bytes ≤ longest_value
unfolding is_frame
frame_short k bytes frame =
    let rest : Bool = nat_le (4 + stated_length bytes) (length bytes)
    && (nat_lt (length bytes - (4 + stated_length bytes)) k && list_all (λ b. b == 0) (drop (4 + stated_length bytes) bytes)) in
    let later = and_parts (nat_le 4 (length bytes)) (nat_le (stated_length bytes) longest_value && rest) frame in
    leb-true (stated_length bytes) longest_value (and_parts (nat_le (stated_length bytes) longest_value) rest later.1).0

value_in-short : (k : ℕ) (bytes : List ℕ) → length (value_in k bytes) ≤ longest_value
unfolding value_in
value_in-short k bytes = by (is_frame k bytes) refl
  where
    by : (b : Bool) → is_frame k bytes ≡ b → length (if b then take (stated_length bytes) (drop 4 bytes) else []) ≤ longest_value
    by true frame = omega (arith, short_take (stated_length bytes) (drop 4 bytes), frame_short k bytes frame)
    by false frame = omega arith

value_in-bytes : (k : ℕ) (bytes : List ℕ) → AreBytes bytes → AreBytes (value_in k bytes)
unfolding value_in
value_in-bytes k bytes are = by (is_frame k bytes)
  where
    by : (b : Bool) → AreBytes (if b then take (stated_length bytes) (drop 4 bytes) else [])
    by true = All-take (λ byte. byte < 256) (stated_length bytes) (drop 4 bytes) (All-drop (λ byte. byte < 256) 4 bytes are)
    by false = All-nil (λ byte. byte < 256)

concat_bytes : (parts : List (List ℕ)) → AllByRecursion AreBytes parts → AreBytes (concat parts)
concat_bytes [] all = All-nil (λ byte. byte < 256)
concat_bytes (part ∷ parts) all = All-append (λ byte. byte < 256) part (concat parts) all.0 (concat_bytes parts all.1)

data_bytes : (n k : ℕ) (shards : List (List ℕ)) → n ≤ 256 → IsCodeword n k shards → AreBytes (data_of k shards)
data_bytes n k shards few codeword =
    concat_bytes (take k shards) (recursion_from_All AreBytes (take k shards) (All-take AreBytes k shards (codeword-all_bytes n k shards few codeword)))

pub delivery_slot-spelled : (c : Numbers) → AreSound c → (e : ℕ) (heard : List Hearing) → AreHeardSpelled c heard
    → HasMade (HasSpelling c) heard (delivery_slot c e)
delivery_slot-spelled c sound e heard spelled = record {
  has = λ own vote h.
      let made = delivery_from c e own heard vote h in
      let delivery = delivery_made-is c e heard made.root vote made.gives in
      let given = value_given c sound e heard made.root delivery.value delivery.was in
      let ready : HasSpelling c (Ready e made.root) = made_spelled c e (delivery_made c e heard) heard vote spelled made in
      let whole : List ℕ = data_of (data_count c) given.shards in
      let bytes : AreBytes whole = data_bytes c.n (data_count c) given.shards (few_nodes c sound) given.echoed.rebuilt.codeword in
      let fits : (0 ≤ length delivery.value) × (length delivery.value ≤ longest_value) × AreBytes delivery.value =
      subst (λ (value : List ℕ). (0 ≤ length value) × (length value ≤ longest_value) × AreBytes value) given.value_is
      (omega arith, value_in-short (data_count c) whole, value_in-bytes (data_count c) whole bytes) in
      subst (HasSpelling c) delivery.is (record { begun = ready.begun; built = ready.built; epoch = ready.epoch; fields = (fits, tt) });
}

-- by rows, for all epochs
pub broadcast-spelled : (c : Numbers) → AreSound c → (i j : ℕ) (heard : List Hearing) → AreHeardSpelled c heard
    → AllByRecursion (λ row. (e : ℕ) → AllByRecursion (HasMade (HasSpelling c) heard) (row e)) (broadcast_rows c i j)
broadcast-spelled c sound i j heard spelled =
    rows_hold (λ e slot. HasMade (HasSpelling c) heard slot) c i j
    (λ e m below. val_slot-spelled c sound i j e m below heard spelled) (λ e. echo_slot-spelled c i j e heard spelled)
    (λ e. ready_slot-spelled c e heard spelled) (λ e. delivery_slot-spelled c sound e heard spelled)

-- what a lane owes in the broadcast has spellings
pub broadcast_spelled : (c : Numbers) → AreSound c → (i j e : ℕ) (own : List Vote) (heard : List Hearing) → AreHeardSpelled c heard
    → AreSpelled c (pass (broadcast_slots c i j e) own heard)
broadcast_spelled c sound i j e own heard spelled =
    pass-all (HasSpelling c) heard (broadcast_slots c i j e)
    (slots_hold (λ e slot. HasMade (HasSpelling c) heard slot) c i j e (broadcast-spelled c sound i j heard spelled)) own
