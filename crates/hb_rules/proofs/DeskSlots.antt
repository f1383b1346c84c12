-- What a desk owes may be cast, one vote after another, whatever more is heard later; it has a spelling; and its proposals
-- have the value that the pool gives.
use Rattle.std.proofs.Common.{◌≡◌, ℕ, zero, suc, ◌+◌, ◌-◌, ◌*◌, ◌<◌, ◌≤◌, Bool, true, false, not, ◌&&◌, ◌==◌, inl, inr, List, [], ◌∷◌, ◌++◌, Contains, Option, None, Some, length, take, map, if◌then◌else◌, refl, sym, ap, ap₂, ◌∙◌, subst, append-nil, length-append, arith}
use Rattle.std.specs.Str.{bytes_eq}
use Rattle.std.specs.List.{All, AllByRecursion, list_any, filter, flat_map, range_with_len}
use Rattle.std.specs.Option.{option_map, option_and_then}
use Rattle.std.specs.Int.{w16, to_be_bytes, byte_at}
use Rattle.std.proofs.lemmas.Bool.{eqb-true, eq-eqb, leb-true, and_from, cases_eq}
use Rattle.std.proofs.lemmas.List.{map-append, length-take}
use Rattle.std.proofs.lemmas.List.Elements.{All-nil, All-cons, All-append, All-push, filter-append}
use Rattle.std.proofs.lemmas.Option.{cond_some}
use Rattle.std.proofs.lemmas.Slice.Eq.{bytes_eq-Decides}
use Rattle.hb_base.specs.ByteLists.{AreBytes}
use Rattle.hb_base.specs.Limits.{longest_value, IsTransaction}
use Rattle.hb_base.specs.Numbers.{Numbers, AreSound}
use Rattle.merkle_branch.proofs.Paths.{byte_at-small}
use Rattle.tx_pool.specs.Calls.{first_places}
use Rattle.hb_wire.specs.Batches.{transaction_bytes}
use Rattle.hb_wire.specs.Votes.{AreItems}
use Rattle.hb_wire.specs.declared.items.Item.{Item}
use Rattle.hb_wire.specs.declared.vote.Vote.{Vote}
use Rattle.hb_wire.specs.declared.vote.Vote.TheVariants.{Delivered, Propose, NoMore, Closed}
use Rattle.hb_rules.specs.Claims.{decided, delivered, is_bit, is_decision}
use Rattle.hb_rules.specs.Hearing.{Hearing, hearing, heard_by, count_shown}
use Rattle.hb_rules.specs.History.{HasSpelling}
use Rattle.hb_rules.specs.Desk.{IsAccepted, MayAtDesk}
use Rattle.hb_rules.specs.Pool.{settles_below, pool_value}
use Rattle.hb_rules.specs.Slots.{Slot, IsOwed, owed, IsGuarded, first_of}
use Rattle.hb_rules.specs.Turns.{InTurn, IsAllowedBy}
use Rattle.hb_rules.specs.DeskRows.{claimed_by, decision_of, delivery_of, items_of, accepted_below, proposal_slot, no_more_slot, closing_slot, desk_rows}
use Rattle.hb_rules.specs.Owing.{desk_slots}
use Rattle.hb_rules.specs.Terms.{is_proper, AreHeardSpelled, AreSpelled, AreAmong}
use Rattle.hb_rules.proofs.Counts.{count_nodes-mono}
use Rattle.hb_rules.proofs.Lists.{list_any-from, IsSource, first_source}
use Rattle.hb_rules.proofs.MoreHeard.{MayAtDesk-among}
use Rattle.hb_rules.proofs.Passing.{HasMade, owed_is_owed, IsOwed-InTurn, IsOwed-all}
use Rattle.hb_rules.proofs.Rows.{by_rows-all, by_rows-hold}
use Rattle.hb_rules.proofs.BroadcastSlots.{heard_spelled}
use Rattle.hb_rules.proofs.AgreementParts.{same_bit-refl}
use Rattle.hb_rules.proofs.AgreementSlots.{in_run}
use Rattle.hb_rules.proofs.DeskParts.{proposal_made, ones, no_more_made, closing_made, desk-guarded}

-- ---- what was heard of a lane

-- a hearing of lane j that gives this result of its claim
record IsClaimed {A : Type 0} (j : ℕ) (claim : Vote → Option A) (heard : List Hearing) (result : A) : Type 0 where
  vote : Vote
  stands : Contains heard (hearing j vote)
  gives : claim vote ≡ Some result

claim_heard : {A : Type 0} (j : ℕ) (claim : Vote → Option A) (heard : List Hearing) (result : A) → first_of (claimed_by j claim) heard ≡ Some result
    → IsClaimed j claim heard result
claim_heard {A} j claim heard result h = by source.element source.stands (source.element.from == j) refl source.gives
  where
    source : IsSource (claimed_by j claim) heard result
    source = first_source (claimed_by j claim) heard result h

    by : (g : Hearing) → Contains heard g → (b : Bool) → (g.from == j) ≡ b → (if b then claim g.vote else None) ≡ Some result
        → IsClaimed j claim heard result
    by g stands true same gives = record {
      vote = g.vote;
      stands = subst (λ (m : ℕ). Contains heard (hearing m g.vote)) (eqb-true g.from j same) stands;
      gives = gives;
    }
    by g stands false same gives = absurd (cc (gives))

pub decision_heard : (e j : ℕ) (heard : List Hearing) (bit : Bool) → decision_of e heard j ≡ Some bit → heard_by heard j (is_decision e bit) ≡ true
decision_heard e j heard bit h =
    let claimed = claim_heard j (decided e) heard bit h in
    list_any-from (λ (g : Hearing). (g.from == j) && is_decision e bit g.vote) heard (hearing j claimed.vote) claimed.stands
    (and_from (j == j) (is_decision e bit claimed.vote) (eq-eqb j j refl) (ap (is_bit bit) claimed.gives ∙ same_bit-refl bit))

delivered-is : (e : ℕ) (vote : Vote) (value : List ℕ) → delivered e vote ≡ Some value → vote ≡ Delivered e value
delivered-is e (Delivered d v) value h =
    let chosen = cond_some (d == e) v value h in
    ap₂ Delivered (eqb-true d e chosen.0) chosen.1
delivered-is e vote value h = absurd (cc (h))

delivery_heard : (e j : ℕ) (heard : List Hearing) (value : List ℕ) → delivery_of e heard j ≡ Some value
    → Contains heard (hearing j (Delivered e value))
delivery_heard e j heard value h =
    let claimed = claim_heard j (delivered e) heard value h in
    subst (λ (vote : Vote). Contains heard (hearing j vote)) (delivered-is e claimed.vote value claimed.gives) claimed.stands

-- ---- the accepted items

-- numbers in order, and one more
range-more : (a n : ℕ) → range_with_len a (suc n) ≡ range_with_len a n ++ (a + n) ∷ []
range-more a zero = let same : a ≡ a + 0 = omega arith in ap (λ (m : ℕ). m ∷ []) same
range-more a (suc n) =
    let same : (a + 1) + n ≡ a + suc n = omega arith in
    ap (λ (rest : List ℕ). a ∷ rest) (range-more (a + 1) n ∙ ap (λ (m : ℕ). range_with_len (a + 1) n ++ m ∷ []) same)

-- whether a lane has decided 1, by the first decision that was heard of it
abbrev accepts : ℕ → List Hearing → ℕ → Bool
accepts e heard j = is_bit true (decision_of e heard j)

-- the items of the lanes below n are those that decided 1, each with a value that it delivered
record AreAccepted (e : ℕ) (heard : List Hearing) (n : ℕ) (items : List Item) : Type 0 where
  decided : (j : ℕ) → j < n → heard_by heard j (is_decision e (accepts e heard j)) ≡ true
  lanes : map (λ item. item.node) items ≡ filter (accepts e heard) (range_with_len 0 n)
  values : All (λ item. Contains heard (hearing item.node (Delivered e item.value))) items

-- the lanes below, and one more
record IsOneMore (e : ℕ) (heard : List Hearing) (j : ℕ) (items : List Item) : Type 0 where
  before : List Item
  more : List Item
  bit : Bool
  was : accepted_below e heard j ≡ Some before
  decided : decision_of e heard j ≡ Some bit
  gives : items_of j (delivery_of e heard j) bit ≡ Some more
  is : before ++ more ≡ items

one_more : (e j : ℕ) (heard : List Hearing) (items : List Item) → accepted_below e heard (suc j) ≡ Some items → IsOneMore e heard j items
one_more e j heard items h = by (accepted_below e heard j) (decision_of e heard j) refl refl h
  where
    last : (before : List Item) (bit : Bool) → accepted_below e heard j ≡ Some before → decision_of e heard j ≡ Some bit
        → (o : Option (List Item)) → items_of j (delivery_of e heard j) bit ≡ o → option_map (λ (more : List Item). before ++ more) o ≡ Some items
        → IsOneMore e heard j items
    last before bit was decided None gives h = absurd (cc (h))
    last before bit was decided (Some more) gives h =
        record { before = before; more = more; bit = bit; was = was; decided = decided; gives = gives; is = cc }

    by : (o : Option (List Item)) (d : Option Bool) → accepted_below e heard j ≡ o → decision_of e heard j ≡ d
        → option_and_then (λ (items : List Item). option_map (λ (more : List Item). items ++ more) (option_and_then (items_of j (delivery_of e heard j)) d)) o ≡ Some items
        → IsOneMore e heard j items
    by None d was decided h = absurd (cc (h))
    by (Some before) None was decided h = absurd (cc (h))
    by (Some before) (Some bit) was decided h = last before bit was decided (items_of j (delivery_of e heard j) bit) refl h

-- what the items of one lane are
one_item : (j : ℕ) (value : Option (List ℕ)) (bit : Bool) (more : List Item) → items_of j value bit ≡ Some more → (P : List Item → Type 0)
    → (bit ≡ false → P [])
    → ((bytes : List ℕ) → bit ≡ true → value ≡ Some bytes → P (record { node = j; value = bytes } ∷ []))
    → P more
one_item j value false more h P rejects accepts = let same : [] ≡ more = cc in subst P same (rejects refl)
one_item j None true more h P rejects accepts = absurd (cc (h))
one_item j (Some bytes) true more h P rejects accepts =
    let same : record { node = j; value = bytes } ∷ [] ≡ more = cc in subst P same (accepts bytes refl refl)

accepted : (e : ℕ) (heard : List Hearing) (n : ℕ) (items : List Item) → accepted_below e heard n ≡ Some items → AreAccepted e heard n items
accepted e heard zero items h =
    let none : [] ≡ items = cc in
    subst (AreAccepted e heard zero) none (record {
      decided = λ j below. absurd (omega arith);
      lanes = refl;
      values = All-nil (λ (item : Item). Contains heard (hearing item.node (Delivered e item.value)));
    })
accepted e heard (suc j) items h =
    let more : IsOneMore e heard j items = one_more e j heard items h in
    let before : AreAccepted e heard j more.before = accepted e heard j more.before more.was in
    let bit : accepts e heard j ≡ more.bit = row more.bit more.decided in
    let last : heard_by heard j (is_decision e (accepts e heard j)) ≡ true =
    ap (λ (b : Bool). heard_by heard j (is_decision e b)) bit ∙ decision_heard e j heard more.bit more.decided in
    subst (AreAccepted e heard (suc j)) more.is
    (one_item j (delivery_of e heard j) more.bit more.more more.gives (λ (items : List Item). AreAccepted e heard (suc j) (more.before ++ items))
    (λ rejects. record {
      decided = λ k inside. upto k inside before.decided last;
      lanes =
          ap (map (λ (item : Item). item.node)) (append-nil more.before) ∙ before.lanes
          ∙ sym (filtered false (bit ∙ rejects) ∙ append-nil (filter (accepts e heard) (range_with_len 0 j)));
      values = subst (All (λ (item : Item). Contains heard (hearing item.node (Delivered e item.value)))) (sym (append-nil more.before)) before.values;
    })
    (λ bytes accepts delivered. record {
      decided = λ k inside. upto k inside before.decided last;
      lanes =
          map-append (λ (item : Item). item.node) more.before (record { node = j; value = bytes } ∷ [])
          ∙ ap (λ (nodes : List ℕ). nodes ++ j ∷ []) before.lanes ∙ sym (filtered true (bit ∙ accepts));
      values = All-push (λ (item : Item). Contains heard (hearing item.node (Delivered e item.value))) more.before (record { node = j; value = bytes }) before.values (delivery_heard e j heard bytes delivered);
    }))
  where
    row : (bit : Bool) → decision_of e heard j ≡ Some bit → accepts e heard j ≡ bit
    row true is = ap (is_bit true) is
    row false is = ap (is_bit true) is

    upto : (k : ℕ) → k < suc j → (below : (k : ℕ) → k < j → heard_by heard k (is_decision e (accepts e heard k)) ≡ true)
        → heard_by heard j (is_decision e (accepts e heard j)) ≡ true → heard_by heard k (is_decision e (accepts e heard k)) ≡ true
    upto k inside below last = elim (cases_eq k j) [
      | inl same ↦ subst (λ (k : ℕ). heard_by heard k (is_decision e (accepts e heard k)) ≡ true) (sym same) last
      | inr other ↦ below k (omega (arith, other))
    ]

    filtered : (bit : Bool) → accepts e heard j ≡ bit
        → filter (accepts e heard) (range_with_len 0 (suc j)) ≡ filter (accepts e heard) (range_with_len 0 j) ++ (if bit then j ∷ [] else [])
    filtered bit is =
        let same : 0 + j ≡ j = omega arith in
        ap (filter (accepts e heard)) (range-more 0 j ∙ ap (λ (m : ℕ). range_with_len 0 j ++ m ∷ []) same)
        ∙ filter-append (accepts e heard) (range_with_len 0 j) (j ∷ [])
        ∙ ap (λ (b : Bool). filter (accepts e heard) (range_with_len 0 j) ++ (if b then j ∷ [] else [])) is

pub closing-accepted : (c : Numbers) (e : ℕ) (heard : List Hearing) (list : List Item) → accepted_below e heard c.n ≡ Some list
    → IsAccepted c e heard list
closing-accepted c e heard list h =
    let is = accepted e heard c.n list h in
    record { bits = accepts e heard; decided = is.decided; lanes = is.lanes; values = is.values }

-- ---- owed votes may be cast

pub proposal_slot-allowed : (c : Numbers) (submitted : List (List ℕ)) (e : ℕ) → e < c.epochs → (some all : List Hearing)
    → IsAllowedBy (λ own vote. MayAtDesk c own all vote) some (proposal_slot c submitted e)
unfolding proposal_slot
proposal_slot-allowed c submitted e below some all = record {
  allowed = λ own vote empty h.
      let made = proposal_made c submitted e own some vote h in
      subst (λ (vote : Vote). MayAtDesk c own all vote) made.1 (below, made.0, empty);
}

pub no_more_slot-allowed : (c : Numbers) (e : ℕ) (some all : List Hearing) → AreAmong some all
    → IsAllowedBy (λ own vote. MayAtDesk c own all vote) some (no_more_slot c e)
unfolding no_more_slot
no_more_slot-allowed c e some all among = record {
  allowed = λ own vote empty h.
      let made = no_more_made c e own some vote h in
      let enough : c.n - c.f ≤ ones c e some = leb-true (c.n - c.f) (ones c e some) made.0 in
      let heard : ones c e some ≤ count_shown c.n (heard_by some) (is_decision e true) =
      count_nodes-mono c.n (λ j. is_bit true (decision_of e some j)) (λ j. heard_by some j (is_decision e true))
      (λ j below one. decision_heard e j some true (is_one (decision_of e some j) one)) in
      MayAtDesk-among c own some all vote among
      (subst (λ (vote : Vote). MayAtDesk c own some vote) made.1 (omega (arith, enough, heard), empty));
}
  where
    is_one : (o : Option Bool) → is_bit true o ≡ true → o ≡ Some true
    is_one None h = absurd (cc (h))
    is_one (Some true) h = refl
    is_one (Some false) h = absurd (cc (h))

pub closing_slot-allowed : (c : Numbers) (e : ℕ) (some all : List Hearing) → AreAmong some all
    → IsAllowedBy (λ own vote. MayAtDesk c own all vote) some (closing_slot c e)
unfolding closing_slot
closing_slot-allowed c e some all among = record {
  allowed = λ own vote empty h.
      let made = closing_made c e own some vote h in
      MayAtDesk-among c own some all vote among
      (subst (λ (vote : Vote). MayAtDesk c own some vote) made.is (made.open_now, closing-accepted c e some made.list made.was, empty));
}

-- what holds of the slots of each kind in the epochs of the run holds of all
desk_slots_hold : (P : Slot Vote Hearing → Type 0) (c : Numbers) (submitted : List (List ℕ)) → ((e : ℕ) → e < c.epochs → P (proposal_slot c submitted e))
    → ((e : ℕ) → e < c.epochs → P (no_more_slot c e)) → ((e : ℕ) → e < c.epochs → P (closing_slot c e))
    → AllByRecursion P (desk_slots c submitted)
desk_slots_hold P c submitted proposal no_more closing =
    by_rows-all P c.epochs (desk_rows c submitted)
    (λ e below. (proposal e below, tt), (λ e below. (no_more e below, tt), (λ e below. (closing e below, tt), tt)))

pub desk-allowed : (c : Numbers) (submitted : List (List ℕ)) (some all : List Hearing) → AreAmong some all
    → AllByRecursion (IsAllowedBy (λ own vote. MayAtDesk c own all vote) some) (desk_slots c submitted)
desk-allowed c submitted some all among =
    desk_slots_hold (IsAllowedBy (λ own vote. MayAtDesk c own all vote) some) c submitted
    (λ e below. proposal_slot-allowed c submitted e below some all) (λ e below. no_more_slot-allowed c e some all among)
    (λ e below. closing_slot-allowed c e some all among)

-- one list is owed
pub desk-owed : (c : Numbers) (submitted : List (List ℕ)) (own : List Vote) (heard : List Hearing)
    → IsOwed (desk_slots c submitted) own heard (owed (desk_slots c submitted) own heard)
desk-owed c submitted own heard =
    owed_is_owed (desk_slots c submitted) (by_rows-hold IsGuarded c.epochs (desk_rows c submitted) (desk-guarded c submitted)) own heard

-- what a desk owes it may cast in turn
pub desk_in_turn : (c : Numbers) (submitted : List (List ℕ)) (own : List Vote) (some all : List Hearing) (votes : List Vote) → AreAmong some all
    → IsOwed (desk_slots c submitted) own some votes
    → InTurn (λ own vote. MayAtDesk c own all vote) own votes
desk_in_turn c submitted own some all votes among owed =
    IsOwed-InTurn (λ own vote. MayAtDesk c own all vote) some (desk_slots c submitted) (desk-allowed c submitted some all among) own votes owed

-- ---- a proposal has the value that the pool gives

pub desk-proper : (c : Numbers) (submitted : List (List ℕ)) (heard : List Hearing)
    → AllByRecursion (IsAllowedBy (λ own vote. is_proper c submitted own vote ≡ true) heard) (desk_slots c submitted)
desk-proper c submitted heard =
    desk_slots_hold (IsAllowedBy (λ own vote. is_proper c submitted own vote ≡ true) heard) c submitted
    (λ e below. record {
      allowed = λ own vote empty h.
          let value : List ℕ = pool_value c submitted e own in
          subst (λ (vote : Vote). is_proper c submitted own vote ≡ true) (proposal_made c submitted e own heard vote h).1 ((bytes_eq-Decides value value).1 refl);
    })
    (λ e below. record {
      allowed = λ own vote empty h. subst (λ (vote : Vote). is_proper c submitted own vote ≡ true) (no_more_made c e own heard vote h).1 refl;
    })
    (λ e below. record {
      allowed = λ own vote empty h. subst (λ (vote : Vote). is_proper c submitted own vote ≡ true) (closing_made c e own heard vote h).is refl;
    })

-- each proposal that a desk owes has the value that the pool gives by the votes before it
pub desk_proper : (c : Numbers) (submitted : List (List ℕ)) (own : List Vote) (heard : List Hearing) (votes : List Vote)
    → IsOwed (desk_slots c submitted) own heard votes
    → InTurn (λ own vote. is_proper c submitted own vote ≡ true) own votes
desk_proper c submitted own heard votes owed =
    IsOwed-InTurn (λ own vote. is_proper c submitted own vote ≡ true) heard (desk_slots c submitted) (desk-proper c submitted heard) own votes owed

-- ---- owed votes have spellings

-- a part of a list
filter_holds : (P : List ℕ → Type 0) (test : List ℕ → Bool) (txs : List (List ℕ)) → AllByRecursion P txs → AllByRecursion P (filter test txs)
filter_holds P test [] all = tt
filter_holds P test (tx ∷ txs) all = by (test tx) (filter_holds P test txs all.1)
  where
    by : (b : Bool) → AllByRecursion P (filter test txs) → AllByRecursion P (if b then tx ∷ filter test txs else filter test txs)
    by true rest = (all.0, rest)
    by false rest = rest

take_holds : (P : List ℕ → Type 0) (k : ℕ) (txs : List (List ℕ)) → AllByRecursion P txs → AllByRecursion P (take k txs)
take_holds P zero txs all = tt
take_holds P (suc k) [] all = tt
take_holds P (suc k) (tx ∷ txs) all = (all.0, take_holds P k txs all.1)

first_places_hold : (P : List ℕ → Type 0) (txs : List (List ℕ)) → AllByRecursion P txs → AllByRecursion P (first_places txs)
first_places_hold P [] all = tt
first_places_hold P (tx ∷ txs) all =
    (all.0, filter_holds P (λ other. not (bytes_eq tx other)) (first_places txs) (first_places_hold P txs all.1))

-- what holds of each transaction that was submitted holds of those that are proposed
proposed_hold : (P : List ℕ → Type 0) (c : Numbers) (submitted : List (List ℕ)) (e : ℕ) (own : List Vote) → AllByRecursion P submitted
    → AllByRecursion P (take c.batch (filter (λ tx. not (list_any (settles_below e tx) own)) (first_places submitted)))
proposed_hold P c submitted e own all =
    take_holds P c.batch (filter (λ tx. not (list_any (settles_below e tx) own)) (first_places submitted))
    (filter_holds P (λ tx. not (list_any (settles_below e tx) own)) (first_places submitted) (first_places_hold P submitted all))

short_bytes : (n : ℕ) → AreBytes (to_be_bytes w16 n)
short_bytes n =
    All-cons (λ b. b < 256) (byte_at 1 n) (byte_at 0 n ∷ []) (byte_at-small 1 n)
    (All-cons (λ b. b < 256) (byte_at 0 n) [] (byte_at-small 0 n) (All-nil (λ b. b < 256)))

transactions_bytes : (batch : List (List ℕ)) → AllByRecursion AreBytes batch → AreBytes (flat_map transaction_bytes batch)
transactions_bytes [] all = All-nil (λ b. b < 256)
transactions_bytes (tx ∷ txs) all =
    All-append (λ b. b < 256) (transaction_bytes tx) (flat_map transaction_bytes txs)
    (All-append (λ b. b < 256) (to_be_bytes w16 (length tx)) tx (short_bytes (length tx)) all.0) (transactions_bytes txs all.1)

-- each transaction takes two bytes more than it has
transactions_short : (batch : List (List ℕ)) → AllByRecursion IsTransaction batch → length (flat_map transaction_bytes batch) ≤ 258 * length batch
transactions_short [] fit = omega arith
transactions_short (tx ∷ txs) fit =
    omega (arith, length-append (transaction_bytes tx) (flat_map transaction_bytes txs), fit.0.1, transactions_short txs fit.1)

pub pool_value-fits : (c : Numbers) → AreSound c → (submitted : List (List ℕ)) → AllByRecursion IsTransaction submitted → AllByRecursion AreBytes submitted
    → (e : ℕ) (own : List Vote)
    → (0 ≤ length (pool_value c submitted e own)) × (length (pool_value c submitted e own) ≤ longest_value) × AreBytes (pool_value c submitted e own)
pool_value-fits c sound submitted fit bytes e own =
    let left : List (List ℕ) = filter (λ tx. not (list_any (settles_below e tx) own)) (first_places submitted) in
    let batch : List (List ℕ) = take c.batch left in
    let few : length batch ≤ c.batch = omega (arith, length-take c.batch left) in
    let short : length (flat_map transaction_bytes batch) ≤ 258 * length batch = transactions_short batch (proposed_hold IsTransaction c submitted e own fit) in (
      omega arith,
      omega (arith, few, short, sound.batch.1, length-append (to_be_bytes w16 (length batch)) (flat_map transaction_bytes batch)),
      All-append (λ b. b < 256) (to_be_bytes w16 (length batch)) (flat_map transaction_bytes batch) (short_bytes (length batch))
          (transactions_bytes batch (proposed_hold AreBytes c submitted e own bytes)),
    )

-- items of the nodes below n, and one of node n
AreItems-wider : (n low : ℕ) (items : List Item) → AreItems n low items → AreItems (suc n) low items
AreItems-wider n low [] are = tt
AreItems-wider n low (item ∷ items) are =
    (are.0, omega (arith, are.1), are.2, are.3, AreItems-wider n (item.node + 1) items are.4)

AreItems-push : (n low : ℕ) (items : List Item) (value : List ℕ) → AreItems n low items → low ≤ n → length value ≤ longest_value → AreBytes value
    → AreItems (suc n) low (items ++ record { node = n; value = value } ∷ [])
AreItems-push n low [] value are le short bytes = (le, omega arith, short, bytes, tt)
AreItems-push n low (item ∷ items) value are le short bytes = (
  are.0,
  omega (arith, are.1),
  are.2,
  are.3,
  AreItems-push n (item.node + 1) items value are.4 (omega (arith, are.1)) short bytes,
)

-- the accepted items of the lanes below n are as many at most, and rise
accepted_fits : (c : Numbers) (e : ℕ) (heard : List Hearing) → AreHeardSpelled c heard → (n : ℕ) (items : List Item)
    → accepted_below e heard n ≡ Some items
    → (length items ≤ n) × AreItems n 0 items
accepted_fits c e heard spelled zero items h =
    let none : [] ≡ items = cc in subst (λ (items : List Item). (length items ≤ 0) × AreItems 0 0 items) none (omega arith, tt)
accepted_fits c e heard spelled (suc j) items h =
    let more : IsOneMore e heard j items = one_more e j heard items h in
    let before = accepted_fits c e heard spelled j more.before more.was in
    subst (λ (items : List Item). (length items ≤ suc j) × AreItems (suc j) 0 items) more.is
    (one_item j (delivery_of e heard j) more.bit more.more more.gives (λ (items : List Item). (length (more.before ++ items) ≤ suc j) × AreItems (suc j) 0 (more.before ++ items))
    (λ rejects. subst (λ (items : List Item). (length items ≤ suc j) × AreItems (suc j) 0 items) (sym (append-nil more.before)) (omega (arith, before.0), AreItems-wider j 0 more.before before.1))
    (λ bytes accepts delivered.
    let fits = (heard_spelled c heard spelled (hearing j (Delivered e bytes)) (delivery_heard e j heard bytes delivered)).fields.0 in (
      omega (arith, before.0, length-append more.before (record { node = j; value = bytes } ∷ [])),
      AreItems-push j 0 more.before bytes before.1 (omega arith) fits.1 fits.2,
    )))

pub desk-spelled : (c : Numbers) → AreSound c → (submitted : List (List ℕ)) → AllByRecursion IsTransaction submitted → AllByRecursion AreBytes submitted
    → (heard : List Hearing) → AreHeardSpelled c heard
    → AllByRecursion (HasMade (HasSpelling c) heard) (desk_slots c submitted)
desk-spelled c sound submitted fit bytes heard spelled =
    desk_slots_hold (HasMade (HasSpelling c) heard) c submitted
    (λ e below. record {
      has = λ own vote h.
          subst (HasSpelling c) (proposal_made c submitted e own heard vote h).1
          (in_run c sound (Propose e (pool_value c submitted e own)) refl below (pool_value-fits c sound submitted fit bytes e own, tt));
    })
    (λ e below. record {
      has = λ own vote h. subst (HasSpelling c) (no_more_made c e own heard vote h).1 (in_run c sound (NoMore e) refl below tt);
    })
    (λ e below. record {
      has = λ own vote h.
          let made = closing_made c e own heard vote h in
          subst (HasSpelling c) made.is
          (in_run c sound (Closed e made.list) refl below (accepted_fits c e heard spelled c.n made.list made.was, tt));
    })

-- what a desk owes has spellings
pub desk_spelled : (c : Numbers) → AreSound c → (submitted : List (List ℕ)) → AllByRecursion IsTransaction submitted → AllByRecursion AreBytes submitted
    → (own : List Vote) (heard : List Hearing) (votes : List Vote) → AreHeardSpelled c heard → IsOwed (desk_slots c submitted) own heard votes
    → AreSpelled c votes
desk_spelled c sound submitted fit bytes own heard votes spelled owed =
    IsOwed-all (HasSpelling c) heard (desk_slots c submitted) (desk-spelled c sound submitted fit bytes heard spelled) own votes owed
