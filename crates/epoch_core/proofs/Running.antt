-- Epochs are closed one after the other: what one pass over the closings gives, and the next over the proposals.
use Rattle.std.proofs.Common.{◌≡◌, ℕ, zero, suc, ◌+◌, ◌<◌, ◌≤◌, Bool, true, false, ◌||◌, ◌==◌, nat_lt, nat_le, List, [], ◌∷◌, ◌++◌, length, take, None, Some, if◌then◌else◌, inl, inr, refl, sym, ap, ◌∙◌, subst, append_assoc, append-nil, length-append, add-one, arith}
use Rattle.std.specs.List.{list_any, list_all}
use Rattle.std.specs.Option.{is_some}
use Rattle.std.proofs.lemmas.Bool.{cases_lt, eq-eqb, eqb-true, false_from_ne_true, and_from}
use Rattle.hb_base.specs.Numbers.{Numbers}
use Rattle.hb_wire.specs.declared.items.Item.{Item}
use Rattle.hb_wire.specs.declared.vote.Vote.{Vote}
use Rattle.hb_wire.specs.declared.vote.Vote.TheVariants.{Propose, Closed}
use Rattle.hb_wire.specs.Batches.{batch_bytes}
use Rattle.tx_pool.specs.Pool.{without}
use Rattle.hb_rules.specs.Claims.{is_any_proposal, is_any_closing}
use Rattle.hb_rules.specs.DeskRows.{proposal_slot, closing_slot, accepted_below}
use Rattle.hb_rules.specs.Hearing.{Hearing}
use Rattle.hb_rules.specs.Pool.{transactions_in}
use Rattle.hb_rules.specs.Slots.{Slot, pass}
use Rattle.epoch_core.specs.declared.table.Table.{Table}
use Rattle.epoch_core.specs.Tables.{list_at}
use Rattle.epoch_core.specs.Closing.{Kept, proposals_after, after_closing, AreClosed}
use Rattle.epoch_core.specs.Epochs.{HasClosed, HasProposed, unsettled}
use Rattle.epoch_core.proofs.Rows.{row_of, row_settled, row_more}
use Rattle.epoch_core.proofs.VoteKinds.{closes_from, from_later, zero_here, all_weaker, is_proposal, all_more, any_stays, any_later, any_neither, closings_propose_none, closings_settle_none, proposals_settle_none}
use Rattle.epoch_core.proofs.DeskSlots.{proposal_cast, proposal_made, closing_made, open_at}
use Rattle.epoch_core.proofs.Settling.{unsettled_more, unsettled_closed}

-- the slots of proposals, and of closings, of the epochs below n
abbrev pub proposal_row : Numbers → List (List ℕ) → ℕ → List (Slot Vote Hearing)
proposal_row c submitted n = row_of (proposal_slot c submitted) n

abbrev pub closing_row : Numbers → ℕ → List (Slot Vote Hearing)
closing_row c n = row_of (closing_slot c) n

-- j is behind the last epoch up to m that the run has
pub record IsBehind (epochs m j : ℕ) : Type 0 where
  pub near : j ≤ suc m
  pub within : j ≤ epochs
  pub all : j < epochs → m < j

-- Where own votes were cast and epoch `from` was open, the epochs below m are closed: the closings are those of one pass,
-- and the proposals those of a pass after it, whatever later epochs are closed before that.
pub record IsAt (c : Numbers) (submitted : List (List ℕ)) (own : List Vote) (now : List Hearing) (from m : ℕ) (k : Kept) : Type 0 where
  pub row : pass (closing_row c m) own now ≡ k.closings
  pub closed : HasClosed c.epochs m (own ++ k.closings)
  pub pooled : k.pooled ≡ unsettled m submitted (own ++ k.closings)
  pub closings : list_all (closes_from 0) k.closings ≡ true
  pub proposals : list_all is_proposal k.proposals ≡ true
  pub asks : (j : ℕ) → IsBehind c.epochs m j → (more : List Vote) → list_all (closes_from m) more ≡ true
      → pass (proposal_row c submitted j) ((own ++ k.closings) ++ more) now ≡ k.proposals
  pub proposed : (e : ℕ) → from < e → e ≤ m → e < c.epochs → list_any (is_any_proposal e) k.proposals ≡ true
  pub fewer : (e : ℕ) → m < e → list_any (is_any_proposal e) k.proposals ≡ false

-- nothing is closed yet
pub IsAt-start : (c : Numbers) (submitted : List (List ℕ)) (own : List Vote) (now : List Hearing) (from : ℕ) (pooled : List (List ℕ))
    → HasClosed c.epochs from own → HasProposed c.epochs from own → pooled ≡ unsettled from submitted own
    → pass (closing_row c from) own now ≡ []
    → IsAt c submitted own now from from (record { pooled = pooled; closings = []; proposals = [] })
IsAt-start c submitted own now from pooled closed proposed is row = record {
  row = row;
  closed = subst (HasClosed c.epochs from) (sym (append-nil own)) closed;
  pooled = is ∙ ap (unsettled from submitted) (sym (append-nil own));
  closings = refl;
  proposals = refl;
  asks = λ j behind more all.
      row_settled (proposal_slot c submitted) j ((own ++ []) ++ more) now
      (λ e below.
      proposal_cast c submitted e ((own ++ []) ++ more) now
      (any_stays (is_any_proposal e) (own ++ []) more
      (any_stays (is_any_proposal e) own [] (proposed.upto e (omega (arith, behind.near)) (omega (arith, behind.within))))));
  proposed = λ e above le below. absurd (omega arith);
  fewer = λ e above. refl;
}

-- ---- one epoch more

closed_here : (m : ℕ) (list : List Item) → is_any_closing m (Closed m list) ≡ true
closed_here m list = ap (λ (b : Bool). is_some (if b then Some list else None)) (eq-eqb m m refl)

closed_elsewhere : (m e : ℕ) (list : List Item) → (m ≡ e → ⊥) → is_any_closing e (Closed m list) ≡ false
closed_elsewhere m e list apart =
    ap (λ (b : Bool). is_some (if b then Some list else None)) (false_from_ne_true (m == e) (λ same. apart (eqb-true m e same)))

proposed_here : (m : ℕ) (value : List ℕ) → is_any_proposal m (Propose m value) ≡ true
proposed_here m value = ap (λ (b : Bool). is_some (if b then Some value else None)) (eq-eqb m m refl)

proposed_elsewhere : (m e : ℕ) (value : List ℕ) → (m ≡ e → ⊥) → is_any_proposal e (Propose m value) ≡ false
proposed_elsewhere m e value apart =
    ap (λ (b : Bool). is_some (if b then Some value else None)) (false_from_ne_true (m == e) (λ same. apart (eqb-true m e same)))

one_passes : {A : Type 0} (test : A → Bool) (x : A) → test x ≡ true → list_any test (x ∷ []) ≡ true
one_passes test x passes = ap (λ (b : Bool). b || false) passes

one_fails : {A : Type 0} (test : A → Bool) (x : A) → test x ≡ false → list_any test (x ∷ []) ≡ false
one_fails test x fails = ap (λ (b : Bool). b || false) fails

pub HasClosed-next : (epochs m : ℕ) (own : List Vote) (list : List Item) → HasClosed epochs m own → HasClosed epochs (suc m) (own ++ Closed m list ∷ [])
HasClosed-next epochs m own list has = record {
  below = λ e below. elim (cases_lt e m) [
    | inl before ↦ any_stays (is_any_closing e) own (Closed m list ∷ []) (has.below e before)
    | inr here ↦
        let same : m ≡ e = omega arith in
        any_later (is_any_closing e) own (Closed m list ∷ [])
        (subst (λ (e : ℕ). list_any (is_any_closing e) (Closed m list ∷ []) ≡ true) same
        (one_passes (is_any_closing m) (Closed m list) (closed_here m list)))
  ];
  above = λ e above below.
      any_neither (is_any_closing e) own (Closed m list ∷ []) (has.above e (omega arith) below)
      (one_fails (is_any_closing e) (Closed m list) (closed_elsewhere m e list (λ same. omega arith)));
}

-- the proposal that follows
after_within : (c : Numbers) (e : ℕ) (pooled : List (List ℕ)) → e < c.epochs → proposals_after c e pooled ≡ Propose e (batch_bytes (take c.batch pooled)) ∷ []
after_within c e pooled below =
    ap (λ (b : Bool). if b then Propose e (batch_bytes (take c.batch pooled)) ∷ [] else []) (let yes : nat_lt e c.epochs ≡ true = grind arith in yes)

after_outside : (c : Numbers) (e : ℕ) (pooled : List (List ℕ)) → c.epochs ≤ e → proposals_after c e pooled ≡ []
after_outside c e pooled above =
    ap (λ (b : Bool). if b then Propose e (batch_bytes (take c.batch pooled)) ∷ [] else []) (let no : nat_lt e c.epochs ≡ false = grind arith in no)

after_kind : (c : Numbers) (e : ℕ) (pooled : List (List ℕ)) → list_all is_proposal (proposals_after c e pooled) ≡ true
after_kind c e pooled = by (nat_lt e c.epochs)
  where
    by : (b : Bool) → list_all is_proposal (if b then Propose e (batch_bytes (take c.batch pooled)) ∷ [] else []) ≡ true
    by true = refl
    by false = refl

after_others : (c : Numbers) (e d : ℕ) (pooled : List (List ℕ)) → (e ≡ d → ⊥) → list_any (is_any_proposal d) (proposals_after c e pooled) ≡ false
after_others c e d pooled apart = by (nat_lt e c.epochs)
  where
    by : (b : Bool) → list_any (is_any_proposal d) (if b then Propose e (batch_bytes (take c.batch pooled)) ∷ [] else []) ≡ false
    by true = one_fails (is_any_proposal d) (Propose e (batch_bytes (take c.batch pooled))) (proposed_elsewhere e d (batch_bytes (take c.batch pooled)) apart)
    by false = refl

-- own votes, closings, one more, and later ones
regrouped : (own cl more : List Vote) (v : Vote) → (own ++ (cl ++ v ∷ [])) ++ more ≡ (own ++ cl) ++ v ∷ more
regrouped own cl more v =
    ap (λ (vs : List Vote). vs ++ more) (sym (append_assoc own cl (v ∷ []))) ∙ append_assoc (own ++ cl) (v ∷ []) more

-- the pass over the proposals, one epoch further
asks_next : (c : Numbers) (submitted : List (List ℕ)) (own : List Vote) (now : List Hearing) (from m : ℕ) (list : List Item) (k : Kept)
    → IsAt c submitted own now from m k → HasProposed c.epochs from own → from ≤ m → m < c.epochs
    → without (transactions_in list) k.pooled ≡ unsettled (suc m) submitted (own ++ (k.closings ++ Closed m list ∷ []))
    → (j : ℕ) → IsBehind c.epochs (suc m) j → (more : List Vote) → list_all (closes_from (suc m)) more ≡ true
    → pass (proposal_row c submitted j) ((own ++ (k.closings ++ Closed m list ∷ [])) ++ more) now
    ≡ k.proposals ++ proposals_after c (suc m) (without (transactions_in list) k.pooled)
asks_next c submitted own now from m list k at has from_le below pooled j behind more all =
    let closings : List Vote = k.closings ++ Closed m list ∷ [] in
    let there : List Vote = (own ++ closings) ++ more in
    let left : List (List ℕ) = without (transactions_in list) k.pooled in
    let later : list_all (closes_from m) (Closed m list ∷ more) ≡ true =
    and_from (nat_le m m) (list_all (closes_from m) more) (let yes : nat_le m m ≡ true = grind arith in yes) (earlier more all) in
    let before : pass (proposal_row c submitted (suc m)) there now ≡ k.proposals =
    ap (λ (vs : List Vote). pass (proposal_row c submitted (suc m)) vs now) (regrouped own k.closings more (Closed m list))
    ∙ at.asks (suc m) (record { near = omega arith; within = omega arith; all = λ _. omega arith }) (Closed m list ∷ more) later in
    elim (cases_lt (suc m) c.epochs) [
      | inl inside ↦
          let is : suc (suc m) ≡ j = exact inside in
          let all_there : List Vote = there ++ k.proposals in
          let empty : list_any (is_any_proposal (suc m)) all_there ≡ false =
          any_neither (is_any_proposal (suc m)) there k.proposals
          (any_neither (is_any_proposal (suc m)) (own ++ closings) more
          (any_neither (is_any_proposal (suc m)) own closings (has.above (suc m) (omega arith) inside)
          (any_neither (is_any_proposal (suc m)) k.closings (Closed m list ∷ []) (closings_propose_none 0 (suc m) k.closings at.closings)
          (closings_propose_none 0 (suc m) (Closed m list ∷ []) (zero_here m list))))
          (closings_propose_none (suc m) (suc m) more all))
          (at.fewer (suc m) (omega arith)) in
          let opened : list_any (is_any_closing m) all_there ≡ true =
          any_stays (is_any_closing m) there k.proposals
          (any_stays (is_any_closing m) (own ++ closings) more
          (any_later (is_any_closing m) own closings
          (any_later (is_any_closing m) k.closings (Closed m list ∷ []) (one_passes (is_any_closing m) (Closed m list) (closed_here m list))))) in
          let value : unsettled (suc m) submitted all_there ≡ left =
          unsettled_more (suc m) submitted there k.proposals (λ tx. proposals_settle_none (suc m) tx k.proposals at.proposals)
          ∙ unsettled_more (suc m) submitted (own ++ closings) more (λ tx. closings_settle_none (suc m) (suc m) tx more (omega arith) all)
          ∙ sym pooled in
          ap (λ (j : ℕ). pass (proposal_row c submitted j) there now) (sym is)
          ∙ row_more (proposal_slot c submitted) (suc m) there now k.proposals before
          ∙ ap (λ (vs : List Vote). k.proposals ++ vs)
          (proposal_made c submitted (suc m) all_there now empty opened
          ∙ ap (λ (txs : List (List ℕ)). Propose (suc m) (batch_bytes (take c.batch txs)) ∷ []) value
          ∙ sym (after_within c (suc m) left inside))
      | inr outside ↦
          let is : suc m ≡ j = last outside in
          ap (λ (j : ℕ). pass (proposal_row c submitted j) there now) (sym is) ∙ before
          ∙ sym (ap (λ (vs : List Vote). k.proposals ++ vs) (after_outside c (suc m) left outside) ∙ append-nil k.proposals)
    ]
  where
    earlier : (more : List Vote) → list_all (closes_from (suc m)) more ≡ true → list_all (closes_from m) more ≡ true
    earlier more all = all_weaker (closes_from (suc m)) (closes_from m) (from_later m) more all

    exact : suc m < c.epochs → suc (suc m) ≡ j
    exact inside = elim (cases_lt j c.epochs) [
      | inl more ↦ omega (arith, behind.near, behind.all more)
      | inr most ↦ omega (arith, behind.near, inside, most)
    ]

    last : c.epochs ≤ suc m → suc m ≡ j
    last outside = elim (cases_lt j c.epochs) [
      | inl more ↦ omega (arith, outside, more, behind.all more)
      | inr most ↦ omega (arith, behind.within, outside, most, below)
    ]

-- epoch m is closed with its list
pub IsAt-next : (c : Numbers) (submitted : List (List ℕ)) (own : List Vote) (now : List Hearing) (from m : ℕ) (list : List Item) (k : Kept)
    → IsAt c submitted own now from m k → HasProposed c.epochs from own → from ≤ m → m < c.epochs → accepted_below m now c.n ≡ Some list
    → IsAt c submitted own now from (suc m) (after_closing c m list k)
IsAt-next c submitted own now from m list k at has from_le below accepted =
    let cast : List Vote = own ++ k.closings in
    let none : list_any (is_any_closing m) cast ≡ false = at.closed.above m (omega arith) below in
    let left : List (List ℕ) = without (transactions_in list) k.pooled in
    let same : (own ++ k.closings) ++ Closed m list ∷ [] ≡ own ++ (k.closings ++ Closed m list ∷ []) = append_assoc own k.closings (Closed m list ∷ []) in
    let pooled : left ≡ unsettled (suc m) submitted (own ++ (k.closings ++ Closed m list ∷ [])) =
    ap (without (transactions_in list)) at.pooled ∙ sym (unsettled_closed m submitted cast list none) ∙ ap (unsettled (suc m) submitted) same in
    let next : proposals_after c (m + 1) left ≡ proposals_after c (suc m) left = ap (λ (e : ℕ). proposals_after c e left) (add-one m) in
    record {
      row =
          row_more (closing_slot c) m own now k.closings at.row
          ∙ ap (λ (vs : List Vote). k.closings ++ vs)
          (closing_made c m cast now list none (open_at c.epochs m m cast at.closed (omega arith)) accepted);
      closed = subst (HasClosed c.epochs (suc m)) same (HasClosed-next c.epochs m cast list at.closed);
      pooled = pooled;
      closings = all_more (closes_from 0) k.closings (Closed m list ∷ []) at.closings (zero_here m list);
      proposals = all_more is_proposal k.proposals (proposals_after c (m + 1) left) at.proposals (after_kind c (m + 1) left);
      asks = λ j behind more all.
          asks_next c submitted own now from m list k at has from_le below pooled j behind more all
          ∙ sym (ap (λ (vs : List Vote). k.proposals ++ vs) next);
      proposed = λ e above le within. elim (cases_lt m e) [
        | inl now_open ↦
            let here : suc m ≡ e = omega arith in
            any_later (is_any_proposal e) k.proposals (proposals_after c (m + 1) left)
            (ap (λ (vs : List Vote). list_any (is_any_proposal e) vs) (next ∙ after_within c (suc m) left (omega arith))
            ∙ ap (λ (d : ℕ). list_any (is_any_proposal e) (Propose d (batch_bytes (take c.batch left)) ∷ [])) here
            ∙ one_passes (is_any_proposal e) (Propose e (batch_bytes (take c.batch left))) (proposed_here e (batch_bytes (take c.batch left))))
        | inr before ↦
            any_stays (is_any_proposal e) k.proposals (proposals_after c (m + 1) left) (at.proposed e above before within)
      ];
      fewer = λ e above.
          any_neither (is_any_proposal e) k.proposals (proposals_after c (m + 1) left) (at.fewer e (omega arith))
          (after_others c (m + 1) e left (λ is. omega arith));
    }

-- so many epochs are closed, by tables that stand for what was heard
pub run : (c : Numbers) (i : ℕ) (tables : List Table) (submitted : List (List ℕ)) (own : List Vote) (now : List Hearing) (from count : ℕ) (old new : Kept)
    → IsAt c submitted own now from from old → HasProposed c.epochs from own
    → ((e : ℕ) → e < c.epochs → list_at c i tables e ≡ accepted_below e now c.n)
    → from + count ≤ c.epochs → AreClosed c i tables from count old new
    → IsAt c submitted own now from (from + count) new
run c i tables submitted own now from zero old new at has lists within is =
    subst (λ (m : ℕ). IsAt c submitted own now from m new) (let same : from ≡ from + 0 = omega arith in same)
    (subst (λ (k : Kept). IsAt c submitted own now from from k) (sym is) at)
run c i tables submitted own now from (suc count) old new at has lists within is =
    let m : ℕ = from + count in
    let below : from + count < c.epochs = omega arith in
    let before : IsAt c submitted own now from (from + count) is.0 =
    run c i tables submitted own now from count old is.0 at has lists (omega arith) is.2 in
    subst (λ (m : ℕ). IsAt c submitted own now from m new) (let same : suc (from + count) ≡ from + suc count = omega arith in same)
    (subst (λ (k : Kept). IsAt c submitted own now from (suc (from + count)) k) (sym is.4)
    (IsAt-next c submitted own now from (from + count) is.1 is.0 before has (omega arith) below
    (sym (lists (from + count) below) ∙ is.3)))

-- how many votes that makes
pub run_length : (c : Numbers) (i : ℕ) (tables : List Table) (from count : ℕ) (old new : Kept) → AreClosed c i tables from count old new
    → (length new.closings ≤ length old.closings + count) × (length new.proposals ≤ length old.proposals + count)
run_length c i tables from zero old new is =
    (omega (arith, ap (λ (k : Kept). length k.closings) is), omega (arith, ap (λ (k : Kept). length k.proposals) is))
run_length c i tables from (suc count) old new is =
    let before = run_length c i tables from count old is.0 is.2 in
    let left : List (List ℕ) = without (transactions_in is.1) (is.0).pooled in
    let one = length-append (is.0).closings (Closed (from + count) is.1 ∷ []) in
    let two = length-append (is.0).proposals (proposals_after c (from + count + 1) left) in (
      omega (arith, before.0, one, ap (λ (k : Kept). length k.closings) is.4),
      omega (arith, before.1, two, few c (from + count + 1) left, ap (λ (k : Kept). length k.proposals) is.4),
    )
  where
    few : (c : Numbers) (e : ℕ) (pooled : List (List ℕ)) → length (proposals_after c e pooled) ≤ 1
    few c e pooled = by (nat_lt e c.epochs)
      where
        by : (b : Bool) → length (if b then Propose e (batch_bytes (take c.batch pooled)) ∷ [] else []) ≤ 1
        by true = omega arith
        by false = omega arith
