-- The spellings of what an actor owes consist of bytes. A spelling asks this of all but the blocks of a fixed size, which are
-- digests and salts; those that an actor casts it has made of strings, or heard.
use Rattle.std.proofs.Common.{◌≡◌, ℕ, ◌+◌, ◌<◌, ◌≤◌, Bool, true, false, nat_lt, ◌==◌, if◌then◌else◌, List, [], ◌∷◌, ◌++◌, length, Contains, Option, None, Some, refl, subst, arith}
use Rattle.std.specs.Int.{w32, to_be_bytes, byte_at}
use Rattle.std.specs.List.{AllByRecursion, cons_option, flat_map}
use Rattle.std.specs.Option.{option_map, option_or}
use Rattle.std.proofs.lemmas.List.Elements.{All-nil, All-cons, All-append, All-head, All-tail}
use Rattle.hb_base.specs.ByteLists.{AreBytes}
use Rattle.hb_base.specs.Numbers.{Numbers, AreSound}
use Rattle.rs_shards.specs.Completing.{encoded}
use Rattle.merkle_branch.specs.Branches.{siblings}
use Rattle.merkle_branch.specs.Digests.{IsDigest, leaf_digests, height}
use Rattle.merkle_branch.proofs.Paths.{byte_at-small, top_is_digest, leaf_digests_are}
use Rattle.coin_deal.proofs.Form.{share_form}
use Rattle.hb_wire.specs.Votes.{Field, node, round, byte, bit, set, block, sized, path, list, row, kind_of, epoch_of, bit_byte, set_byte, sized_bytes, item_bytes, field_bytes, FieldFits, AreItems, IsVote, spelling, Spells}
use Rattle.hb_wire.specs.declared.items.Item.{Item}
use Rattle.hb_wire.specs.declared.vote.Vals.{Vals}
use Rattle.hb_wire.specs.declared.vote.Vals.TheVariants.{Zero, One, Both}
use Rattle.hb_wire.specs.declared.vote.Vote.{Vote}
use Rattle.hb_wire.specs.declared.vote.Vote.TheVariants.{Val, Echo, Ready, Delivered, Est, Bval, Aux, Conf, Pick, Coin, Decided, Propose, NoMore, Closed}
use Rattle.hb_wire.specs.declared.post.Post.{Post}
use Rattle.hb_wire.proofs.VoteLemmas.{vote_takes}
use Rattle.hb_rules.specs.declared.agreement_slot.AgreementSlot.{AgreementSlot}
use Rattle.hb_rules.specs.declared.agreement_slot.AgreementSlot.TheVariants.{Begin, Support, Accept, ConfirmOne, ConfirmBoth, PickOne, PickBoth, ShowShare, GoOn, Decide}
use Rattle.hb_rules.specs.AgreementRows.{View, view_of, agreement_slot}
use Rattle.hb_rules.specs.BroadcastRows.{named, val_slot, echo_slot, ready_slot, delivery_slot, broadcast_rows}
use Rattle.hb_rules.specs.Claims.{echoed, readied}
use Rattle.hb_rules.specs.Code.{data_count}
use Rattle.hb_rules.specs.DeskRows.{desk_rows}
use Rattle.hb_rules.specs.Hearing.{Hearing, hearing_of, heard_in}
use Rattle.hb_rules.specs.Owing.{lane_slots, desk_slots, slots_of}
use Rattle.hb_rules.specs.Slots.{owed}
use Rattle.hb_rules.proofs.AgreementParts.{Gives, choice_gives, agreement_hold}
use Rattle.hb_rules.proofs.BroadcastParts.{val_made, echo_from, ready_from, ready_made-is, delivery_from, delivery_made-is, rows_hold}
use Rattle.hb_rules.proofs.BroadcastSlots.{echoed-is, readied-is}
use Rattle.hb_rules.proofs.Cast.{heard_is}
use Rattle.hb_rules.proofs.DeskParts.{proposal_made, no_more_made, closing_made, desk_hold}
use Rattle.hb_rules.proofs.LaneSlots.{lane_hold}
use Rattle.hb_rules.proofs.Lists.{AllByRecursion-contains}
use Rattle.hb_rules.proofs.Passing.{HasMade, passes-all}
use Rattle.hb_rules.proofs.Rows.{by_rows-hold}

-- a block of a fixed size consists of bytes
abbrev pub IsOfBytes : Field → Type 0
IsOfBytes (block size bytes) = AreBytes bytes
IsOfBytes _ = Unit {0}

-- each of a vote does
abbrev pub HasBytes : Vote → Type 0
HasBytes vote = AllByRecursion IsOfBytes (row vote).fields

-- ---- spellings

one_byte : (b : ℕ) → b < 256 → AreBytes (b ∷ [])
one_byte b small = All-cons (λ byte. byte < 256) b [] small (All-nil (λ byte. byte < 256))

long_bytes : (n : ℕ) → AreBytes (to_be_bytes w32 n)
long_bytes n =
    All-cons (λ b. b < 256) (byte_at 3 n) (byte_at 2 n ∷ byte_at 1 n ∷ byte_at 0 n ∷ []) (byte_at-small 3 n)
    (All-cons (λ b. b < 256) (byte_at 2 n) (byte_at 1 n ∷ byte_at 0 n ∷ []) (byte_at-small 2 n)
    (All-cons (λ b. b < 256) (byte_at 1 n) (byte_at 0 n ∷ []) (byte_at-small 1 n)
    (All-cons (λ b. b < 256) (byte_at 0 n) [] (byte_at-small 0 n) (All-nil (λ b. b < 256)))))

sized_are : (bytes : List ℕ) → AreBytes bytes → AreBytes (sized_bytes bytes)
sized_are bytes are = All-append (λ b. b < 256) (to_be_bytes w32 (length bytes)) bytes (long_bytes (length bytes)) are

items_are : (n low : ℕ) (items : List Item) → n ≤ 16 → AreItems n low items → AreBytes (flat_map item_bytes items)
items_are n low [] few are = All-nil (λ b. b < 256)
items_are n low (item ∷ items) few are =
    All-append (λ b. b < 256) (item_bytes item) (flat_map item_bytes items)
    (All-cons (λ b. b < 256) item.node (sized_bytes item.value) (omega (arith, are.1)) (sized_are item.value are.3))
    (items_are n (item.node + 1) items few are.4)

digests_are : (digests : List (List ℕ)) → AllByRecursion IsDigest digests → AreBytes (flat_map (λ bytes. bytes) digests)
digests_are [] are = All-nil (λ b. b < 256)
digests_are (digest ∷ digests) are =
    All-append (λ b. b < 256) digest (flat_map (λ bytes. bytes) digests) are.0.bytes (digests_are digests are.1)

bit_small : (b : Bool) → bit_byte b < 256
bit_small true = omega arith
bit_small false = omega arith

set_small : (vals : Vals) → set_byte vals < 256
set_small Zero = omega arith
set_small One = omega arith
set_small Both = omega arith

field_are : (n : ℕ) (field : Field) → n ≤ 16 → FieldFits n field → IsOfBytes field → AreBytes (field_bytes field)
field_are n (node m) few fits of = one_byte m (omega arith)
field_are n (round r) few fits of = one_byte r (omega arith)
field_are n (byte b) few fits of = one_byte b fits
field_are n (bit b) few fits of = one_byte (bit_byte b) (bit_small b)
field_are n (set vals) few fits of = one_byte (set_byte vals) (set_small vals)
field_are n (block size bytes) few fits of = of
field_are n (sized least most bytes) few fits of = sized_are bytes fits.2
field_are n (path branch) few fits of = digests_are (siblings branch) fits.digests
field_are n (list items) few fits of =
    All-cons (λ b. b < 256) (length items) (flat_map item_bytes items) (omega (arith, fits.0)) (items_are n 0 items few fits.1)

fields_are : (n : ℕ) (fields : List Field) → n ≤ 16 → AllByRecursion (FieldFits n) fields → AllByRecursion IsOfBytes fields
    → AreBytes (flat_map field_bytes fields)
fields_are n [] few fits of = All-nil (λ b. b < 256)
fields_are n (field ∷ fields) few fits of =
    All-append (λ b. b < 256) (field_bytes field) (flat_map field_bytes fields) (field_are n field few fits.0 of.0) (fields_are n fields few fits.1 of.1)

kind_small : (vote : Vote) → kind_of vote < 256
kind_small (Val e m root shard branch) = omega arith
kind_small (Echo e root shard branch) = omega arith
kind_small (Ready e root) = omega arith
kind_small (Delivered e value) = omega arith
kind_small (Est e r b) = omega arith
kind_small (Bval e r b) = omega arith
kind_small (Aux e r b) = omega arith
kind_small (Conf e r vals) = omega arith
kind_small (Pick e r vals) = omega arith
kind_small (Coin e r share salt branch) = omega arith
kind_small (Decided e b) = omega arith
kind_small (Propose e value) = omega arith
kind_small (NoMore e) = omega arith
kind_small (Closed e items) = omega arith

-- such a vote's spelling spells it
pub spelling_spells : (n version : ℕ) (vote : Vote) → n ≤ 16 → IsVote n version vote → HasBytes vote → Spells n version (spelling vote) vote
spelling_spells n version vote few fits of = record {
  are_bytes =
      All-cons (λ b. b < 256) (kind_of vote) (epoch_of vote ∷ flat_map field_bytes (row vote).fields) (kind_small vote)
      (All-cons (λ b. b < 256) (epoch_of vote) (flat_map field_bytes (row vote).fields) (omega (arith, fits.epoch))
      (fields_are n (row vote).fields few fits.fields of));
  fits = fits;
  spelled = refl;
}

-- ---- what was heard

front_bytes : (xs ys : List ℕ) → AreBytes (xs ++ ys) → AreBytes xs × AreBytes ys
front_bytes [] ys are = (All-nil (λ b. b < 256), are)
front_bytes (x ∷ xs) ys are =
    let rest = front_bytes xs ys (All-tail (λ b. b < 256) x (xs ++ ys) are) in
    (All-cons (λ b. b < 256) x xs (All-head (λ b. b < 256) x (xs ++ ys) are) rest.0, rest.1)

field_of : (field : Field) → AreBytes (field_bytes field) → IsOfBytes field
field_of (block size bytes) are = are
field_of field are = tt

fields_of : (fields : List Field) → AreBytes (flat_map field_bytes fields) → AllByRecursion IsOfBytes fields
fields_of [] are = tt
fields_of (field ∷ fields) are =
    let parts = front_bytes (field_bytes field) (flat_map field_bytes fields) are in
    (field_of field parts.0, fields_of fields parts.1)

-- a vote that bytes spell
pub spelled_bytes : (n version : ℕ) (bytes : List ℕ) (vote : Vote) → Spells n version bytes vote → HasBytes vote
spelled_bytes n version bytes vote spells =
    let are : AreBytes (spelling vote) = subst AreBytes spells.spelled spells.are_bytes in
    fields_of (row vote).fields
    (All-tail (λ b. b < 256) (epoch_of vote) (flat_map field_bytes (row vote).fields)
    (All-tail (λ b. b < 256) (kind_of vote) (epoch_of vote ∷ flat_map field_bytes (row vote).fields) are))

abbrev pub AreHeardBytes : List Hearing → Type 0
AreHeardBytes heard = AllByRecursion (λ h. HasBytes h.vote) heard

pub heard_bytes : (c : Numbers) (i x : ℕ) (posts : List Post) → AreHeardBytes (heard_in c i x posts)
heard_bytes c i x [] = tt
heard_bytes c i x (post ∷ posts) = by (hearing_of c i x post) refl (heard_bytes c i x posts)
  where
    by : (o : Option Hearing) → hearing_of c i x post ≡ o → AreHeardBytes (heard_in c i x posts) → AreHeardBytes (cons_option o (heard_in c i x posts))
    by None is rest = rest
    by (Some h) is rest =
        let heard = heard_is c i x post h is in
        let has : HasBytes heard.vote = spelled_bytes c.n c.version post.bytes heard.vote (vote_takes c.n c.version post.bytes heard.vote heard.is) in
        (subst (λ (g : Hearing). HasBytes g.vote) heard.hearing_is has, rest)

-- ---- what slots make

had : (heard : List Hearing) → AreHeardBytes heard → (h : Hearing) → Contains heard h → HasBytes h.vote
had heard of h stands = AllByRecursion-contains (λ h. HasBytes h.vote) heard h of stands

val_bytes : (c : Numbers) (i j e m : ℕ) (heard : List Hearing) → HasMade HasBytes heard (val_slot c i j e m)
val_bytes c i j e m heard = record {
  has = λ own vote h.
      let made = val_made c i j e m own heard vote h in
      let shards : List (List ℕ) = encoded c.n (data_count c) made.value in
      let root = top_is_digest (height (length (leaf_digests shards))) (leaf_digests shards) (leaf_digests_are 0 shards) in
      subst HasBytes made.is (tt, (root.bytes, (tt, (tt, tt))));
}

echo_bytes : (c : Numbers) (i j e : ℕ) (heard : List Hearing) → AreHeardBytes heard → HasMade HasBytes heard (echo_slot c i j e)
echo_bytes c i j e heard of = record {
  has = λ own vote h.
      let from = echo_from c i j e own heard vote h in
      let val : HasBytes (Val e i from.made.root from.made.shard from.made.branch) =
      subst HasBytes from.made.was (had heard of from.hearing from.stands) in
      subst HasBytes from.made.is val.1;
}

-- a root that was named
named_bytes : (c : Numbers) (e : ℕ) (h : Hearing) (root : List ℕ) → HasBytes h.vote → named c.n e h ≡ Some root → AreBytes root
named_bytes c e h root of names = by (echoed c.n e h.from h.vote) refl names
  where
    by : (o : Option (List ℕ × List ℕ)) → echoed c.n e h.from h.vote ≡ o → option_or (option_map (λ part. part.0) o) (readied e h.vote) ≡ Some root
        → AreBytes root
    by None is names = let ready : HasBytes (Ready e root) = subst HasBytes (readied-is e h.vote root names) of in ready.0
    by (Some part) is names =
        let echo = echoed-is c.n e h.from h.vote part is in
        let has : HasBytes (Echo e part.0 part.1 echo.branch) = subst HasBytes echo.is of in
        let same : part.0 ≡ root = cc in
        subst AreBytes same has.0

ready_bytes : (c : Numbers) (e : ℕ) (heard : List Hearing) → AreHeardBytes heard → HasMade HasBytes heard (ready_slot c e)
ready_bytes c e heard of = record {
  has = λ own vote h.
      let made = ready_from c e own heard vote h in
      let ready = ready_made-is c e heard made.root vote made.gives in
      subst HasBytes ready.1 (named_bytes c e made.hearing made.root (had heard of made.hearing made.stands) made.names, tt);
}

delivery_bytes : (c : Numbers) (e : ℕ) (heard : List Hearing) → HasMade HasBytes heard (delivery_slot c e)
delivery_bytes c e heard = record {
  has = λ own vote h.
      let made = delivery_from c e own heard vote h in
      subst HasBytes (delivery_made-is c e heard made.root vote made.gives).is (tt, tt);
}

broadcast_bytes : (c : Numbers) (i j : ℕ) (heard : List Hearing) → AreHeardBytes heard
    → AllByRecursion (λ row. (e : ℕ) → AllByRecursion (HasMade HasBytes heard) (row e)) (broadcast_rows c i j)
broadcast_bytes c i j heard of =
    rows_hold (λ e slot. HasMade HasBytes heard slot) c i j
    (λ e m below. val_bytes c i j e m heard) (λ e. echo_bytes c i j e heard of) (λ e. ready_bytes c e heard of) (λ e. delivery_bytes c e heard)

gives_bytes : (c : Numbers) → AreSound c → (i j e : ℕ) → i < c.n → (name : AgreementSlot) (v : View) → Gives c i j e name v HasBytes
gives_bytes c sound i j e inside (Begin true) v = λ h. (tt, (tt, tt))
gives_bytes c sound i j e inside (Begin false) v = λ h. (tt, (tt, tt))
gives_bytes c sound i j e inside (Support r b) v = λ h. (tt, (tt, tt))
gives_bytes c sound i j e inside (Accept r) v = λ b begun supported. (tt, (tt, tt))
gives_bytes c sound i j e inside (ConfirmOne r b) v = λ h. (tt, (tt, tt))
gives_bytes c sound i j e inside (ConfirmBoth r) v = λ h. (tt, (tt, tt))
gives_bytes c sound i j e inside (PickOne r b) v = λ h. (tt, (tt, tt))
gives_bytes c sound i j e inside (PickBoth r) v = λ h. (tt, (tt, tt))
gives_bytes c sound i j e inside (ShowShare r) v = λ h.
    let form = share_form c e j r i (omega (arith, sound.nodes.1)) inside in
    (tt, (tt, (form.salt_bytes, (tt, tt))))
gives_bytes c sound i j e inside (GoOn r) v = λ coin b is next. (tt, (tt, tt))
gives_bytes c sound i j e inside (Decide r) v = λ coin is picked. (tt, tt)

slot_bytes : (c : Numbers) → AreSound c → (i j e : ℕ) → i < c.n → (name : AgreementSlot) (heard : List Hearing)
    → HasMade HasBytes heard (agreement_slot c i j e name)
unfolding agreement_slot
slot_bytes c sound i j e inside name heard = record {
  has = λ own vote h.
      choice_gives c i j e name (view_of c i j e own heard) HasBytes (gives_bytes c sound i j e inside name (view_of c i j e own heard)) vote h;
}

lane_bytes : (c : Numbers) → AreSound c → (i j : ℕ) → i < c.n → (heard : List Hearing) → AreHeardBytes heard
    → AllByRecursion (HasMade HasBytes heard) (lane_slots c i j)
lane_bytes c sound i j inside heard of =
    lane_hold (HasMade HasBytes heard) c i j (broadcast_bytes c i j heard of)
    (agreement_hold (λ e slot. HasMade HasBytes heard slot) c i j (λ e name known. slot_bytes c sound i j e inside name heard))

desk_bytes : (c : Numbers) (submitted : List (List ℕ)) (heard : List Hearing) → AllByRecursion (HasMade HasBytes heard) (desk_slots c submitted)
desk_bytes c submitted heard =
    by_rows-hold (HasMade HasBytes heard) c.epochs (desk_rows c submitted)
    (desk_hold (λ e slot. HasMade HasBytes heard slot) c submitted
    (λ e. record { has = λ own vote h. subst HasBytes (proposal_made c submitted e own heard vote h).1 (tt, tt) })
    (λ e. record { has = λ own vote h. subst HasBytes (no_more_made c e own heard vote h).1 tt })
    (λ e. record { has = λ own vote h. subst HasBytes (closing_made c e own heard vote h).is (tt, tt) }))

-- what any actor of a node of the run owes
pub owed_bytes : (c : Numbers) → AreSound c → (submitted : List (List ℕ)) (i x : ℕ) → i < c.n → (own : List Vote) (heard : List Hearing) → AreHeardBytes heard
    → AllByRecursion HasBytes (owed (slots_of c submitted i x) own heard)
owed_bytes c sound submitted i x inside own heard of = passes-all HasBytes heard (slots_of c submitted i x) made _ own
  where
    by : (lane desk : Bool)
        → AllByRecursion (HasMade HasBytes heard) (if lane then lane_slots c i x else (if desk then desk_slots c submitted else []))
    by true desk = lane_bytes c sound i x inside heard of
    by false true = desk_bytes c submitted heard
    by false false = tt

    made : AllByRecursion (HasMade HasBytes heard) (slots_of c submitted i x)
    made = by (nat_lt x c.n) (x == c.n)
