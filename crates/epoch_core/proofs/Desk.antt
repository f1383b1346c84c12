-- The state of all epochs: what it stands for when it is made, started, and after each hearing.
use Rattle.std.proofs.Common.{◌≡◌, ℕ, zero, suc, ◌+◌, ◌-◌, ◌<◌, ◌≤◌, Bool, true, false, ◌||◌, ◌==◌, List, [], ◌∷◌, ◌++◌, length, take, Option, None, Some, if◌then◌else◌, inl, inr, refl, sym, ap, ◌∙◌, subst, append-nil, arith}
use Rattle.std.specs.List.{list_any, flat_map}
use Rattle.std.specs.Option.{option_map, option_and_then, option_to_list, is_some}
use Rattle.std.proofs.lemmas.Bool.{cases_lt, eqb-true, false_from_ne_true, both_ways}
use Rattle.hb_base.specs.Limits.{most_epochs}
use Rattle.hb_base.specs.Numbers.{Numbers}
use Rattle.hb_wire.specs.declared.items.Item.{Item}
use Rattle.hb_wire.specs.declared.vote.Vote.{Vote}
use Rattle.hb_wire.specs.declared.vote.Vote.TheVariants.{Propose}
use Rattle.hb_wire.specs.Batches.{batch_bytes}
use Rattle.hb_wire.specs.Votes.{epoch_of}
use Rattle.tx_pool.specs.Calls.{first_places}
use Rattle.tx_pool.specs.Pool.{without}
use Rattle.hb_rules.specs.Claims.{is_any_proposal, is_any_closing, is_no_more}
use Rattle.hb_rules.specs.Desk.{is_open}
use Rattle.hb_rules.specs.DeskRows.{proposal_slot, closing_slot, accepted_below, items_of, decision_of, delivery_of}
use Rattle.hb_rules.specs.Hearing.{Hearing}
use Rattle.hb_rules.specs.Owing.{desk_slots}
use Rattle.hb_rules.specs.Pool.{settles_below}
use Rattle.hb_rules.specs.Slots.{pass, owes, IsIdle, IsOwed}
use Rattle.hb_rules.proofs.Passing.{IsOwed-nil}
use Rattle.epoch_core.specs.declared.table.Table.{Table}
use Rattle.epoch_core.specs.Tables.{ArePlaced, IsSound, AreUnheard, HaveHeard, HearsAll, no_more_if}
use Rattle.epoch_core.specs.Closing.{Kept, closed_transactions, first_value, ClosesAll}
use Rattle.epoch_core.specs.Epochs.{EpochsView, first_votes, AreInOrder, HasClosed, HasProposed, HasFirst, unsettled, Stands, Starts, Hears}
use Rattle.epoch_core.proofs.Rows.{row_more, row_extends, row_settled, pass_three}
use Rattle.epoch_core.proofs.VoteKinds.{any_stays, any_later, any_neither, no_more_none, closings_want_more, proposals_want_more, proposals_settle_none}
use Rattle.epoch_core.proofs.DeskSlots.{proposal_made, closing_cast, open_at, shut_at, HasClosed-more, HasProposed-more}
use Rattle.epoch_core.proofs.Settling.{unsettled_more, unsettled_all, unsettled_zero}
use Rattle.epoch_core.proofs.Running.{proposal_row, closing_row, IsAt, IsAt-start, run, run_length}
use Rattle.epoch_core.proofs.Tabled.{no_more_row, row_rests, lists_heard, HaveHeard-more, HaveHeard-fresh, ArePlaced-fresh}
use Rattle.epoch_core.proofs.Owed.{proposal_settled, closings_rest, desk_rests, IsRun, with_all, regroup, run_closed, run_proposed, run_owed}

-- ---- a hearing, at a desk that has started

-- the state, whose first proposal is cast
abbrev pub started : Numbers → ℕ → List (List ℕ) → ℕ → List Table → EpochsView
started c i pooled closed tables = record { config = c; node = i; pooled = pooled; closed = closed; first = None; tables = tables }

is_run : (c : Numbers) (i : ℕ) (pooled : List (List ℕ)) (from to : ℕ) (old new : List Table) (h : Hearing) (is_due : Bool) (k : Kept)
    → HearsAll c i old new h is_due → ClosesAll c i new from to (record { pooled = pooled; closings = []; proposals = [] }) k
    → (submitted : List (List ℕ)) (own : List Vote) (heard : List Hearing) → Stands (started c i pooled from old) submitted own heard
    → IsRun c submitted own (heard ++ h ∷ []) from to (no_more_if is_due (epoch_of h.vote)) k
is_run c i pooled from to old new h is_due k hears closes submitted own heard stands =
    let now : List Hearing = heard ++ h ∷ [] in
    let wants : List Vote = no_more_if is_due (epoch_of h.vote) in
    let no_closing : (e : ℕ) → list_any (is_any_closing e) wants ≡ false = λ e. no_more_none (is_any_closing e) is_due (epoch_of h.vote) refl in
    let no_proposal : (e : ℕ) → list_any (is_any_proposal e) wants ≡ false = λ e. no_more_none (is_any_proposal e) is_due (epoch_of h.vote) refl in
    let proposed : HasProposed c.epochs from own = subst (HasProposed c.epochs from) (append-nil own) stands.proposed in
    let lists = lists_heard c i new (own ++ wants) now hears.placed (hears.stands own heard stands.tables) in
    let begun : HasClosed c.epochs from (own ++ wants) = HasClosed-more c.epochs from own wants no_closing stands.closed in
    let now_proposed : HasProposed c.epochs from (own ++ wants) = HasProposed-more c.epochs from own wants no_proposal proposed in
    record {
      closed = stands.closed;
      proposed = proposed;
      row = hears.row own heard stands.tables;
      no_closing = no_closing;
      no_proposal = no_proposal;
      at =
          subst (λ (m : ℕ). IsAt c submitted (own ++ wants) now from m k) (sym closes.reaches)
          (run c i new submitted (own ++ wants) now from closes.count (record { pooled = pooled; closings = []; proposals = [] }) k
          (IsAt-start c submitted (own ++ wants) now from pooled begun now_proposed
          (stands.pooled ∙ sym (unsettled_more from submitted own wants (λ tx. no_more_none (settles_below from tx) is_due (epoch_of h.vote) refl)))
          (row_settled_below c from (own ++ wants) now begun (omega (arith, closes.reaches, closes.most))))
          now_proposed lists (omega (arith, closes.reaches, closes.most)) closes.closed);
      least = omega (arith, closes.reaches);
      most = closes.most;
      next = λ below. sym (lists to below) ∙ closes.next below;
    }
  where
    row_settled_below : (c : Numbers) (from : ℕ) (own : List Vote) (now : List Hearing) → HasClosed c.epochs from own → from ≤ c.epochs
        → IsIdle (closing_row c from) own now
    row_settled_below c from own now has within = row_settled (closing_slot c) from own now (λ e below. closing_cast c e own now (has.below e below))

pub Hears-started : (c : Numbers) (i : ℕ) (pooled : List (List ℕ)) (from to : ℕ) (old new : List Table) (h : Hearing) (is_due : Bool) (k : Kept) (before : List Vote)
    → HearsAll c i old new h is_due → ClosesAll c i new from to (record { pooled = pooled; closings = []; proposals = [] }) k
    → Hears (started c i pooled from old) (started c i k.pooled to new) h before (with_all before (no_more_if is_due (epoch_of h.vote)) k)
Hears-started c i pooled from to old new h is_due k before hears closes = record {
  config = refl;
  node = refl;
  started = refl;
  votes = (no_more_if is_due (epoch_of h.vote) ++ k.closings) ++ k.proposals;
  due = regroup before (no_more_if is_due (epoch_of h.vote)) k;
  owed = λ submitted own heard stands.
      run_owed c submitted own (heard ++ h ∷ []) from to (no_more_if is_due (epoch_of h.vote)) k
      (is_run c i pooled from to old new h is_due k hears closes submitted own heard stands);
  stands = λ submitted own heard stands.
      let wants : List Vote = no_more_if is_due (epoch_of h.vote) in
      let is = is_run c i pooled from to old new h is_due k hears closes submitted own heard stands in
      let now : List Hearing = heard ++ h ∷ [] in
      let votes : List Vote = (wants ++ k.closings) ++ k.proposals in
      record {
        idle =
            subst (λ (own : List Vote). IsIdle (desk_slots c submitted) own now) (sym (append-nil (own ++ votes)))
            (run_owed c submitted own now from to wants k is).rests;
        closed = subst (HasClosed c.epochs to) (regroup own wants k) (run_closed c submitted own now from to wants k is);
        proposed =
            subst (HasProposed c.epochs to) (regroup own wants k ∙ sym (append-nil (own ++ votes)))
            (run_proposed c submitted own now from to wants k is);
        pooled =
            is.at.pooled
            ∙ sym (unsettled_more to submitted ((own ++ wants) ++ k.closings) k.proposals (λ tx. proposals_settle_none to tx k.proposals is.at.proposals))
            ∙ ap (unsettled to submitted) (regroup own wants k);
        first = any_stays (is_any_proposal 0) own votes stands.first;
        tables =
            subst (λ (own : List Vote). HaveHeard c i new own now) (regroup own wants k)
            (HaveHeard-more c i new ((own ++ wants) ++ k.closings) k.proposals now hears.placed (λ e. proposals_want_more e k.proposals is.at.proposals)
            (HaveHeard-more c i new (own ++ wants) k.closings now hears.placed (λ e. closings_want_more 0 e k.closings is.at.closings)
            (hears.stands own heard stands.tables)));
      };
}

pub Hears-from : (d : EpochsView) (to : ℕ) (new : List Table) (h : Hearing) (is_due : Bool) (k : Kept) (before : List Vote) → d.first ≡ None
    → HearsAll d.config d.node d.tables new h is_due
    → ClosesAll d.config d.node new d.closed to (record { pooled = d.pooled; closings = []; proposals = [] }) k
    → Hears d (record d { pooled = k.pooled; closed = to; tables = new }) h before (with_all before (no_more_if is_due (epoch_of h.vote)) k)
Hears-from d to new h is_due k before none hears closes =
    subst (λ (first : Option (List ℕ)). Hears (record d { first = first }) (record d { pooled = k.pooled; closed = to; tables = new; first = first }) h before (with_all before (no_more_if is_due (epoch_of h.vote)) k))
    (sym none)
    (Hears-started d.config d.node d.pooled d.closed to d.tables new h is_due k before hears closes)

-- ---- the start

none_accepted : (e n : ℕ) → 0 < n → accepted_below e [] n ≡ None
none_accepted e zero some = absurd (omega arith)
none_accepted e (suc n) some = by (accepted_below e [] n)
  where
    by : (o : Option (List Item)) → option_and_then (λ items. option_map (λ more. items ++ more) (option_and_then (items_of n (delivery_of e [] n)) (decision_of e [] n))) o ≡ None
    by None = refl
    by (Some items) = refl

-- what is no closing, settles nothing, and is not NoMore
first_closes_none : (value : Option (List ℕ)) (e : ℕ) → list_any (is_any_closing e) (option_to_list (option_map (Propose 0) value)) ≡ false
first_closes_none None e = refl
first_closes_none (Some value) e = refl

first_wants_more : (value : Option (List ℕ)) (e : ℕ) → list_any (is_no_more e) (option_to_list (option_map (Propose 0) value)) ≡ false
first_wants_more None e = refl
first_wants_more (Some value) e = refl

first_settles_none : (value : Option (List ℕ)) (e : ℕ) (tx : List ℕ) → list_any (settles_below e tx) (option_to_list (option_map (Propose 0) value)) ≡ false
first_settles_none None e tx = refl
first_settles_none (Some value) e tx = refl

first_later : (value : Option (List ℕ)) (e : ℕ) → 0 < e → list_any (is_any_proposal e) (option_to_list (option_map (Propose 0) value)) ≡ false
first_later None e later = refl
first_later (Some value) e later =
    ap (λ (b : Bool). is_some (if b then Some value else None) || false) (false_from_ne_true (0 == e) (λ same. omega (arith, eqb-true 0 e same)))

pub start_owed : (d : EpochsView) → 0 < d.config.epochs → 0 < d.config.n → ArePlaced d.config d.node d.tables → (submitted : List (List ℕ)) (own : List Vote)
    → Stands d submitted own [] → IsOwed (desk_slots d.config submitted) own [] (first_votes d)
start_owed d some nodes placed submitted own stands = by d.first stands.first stands.idle stands.proposed
  where
    c : Numbers
    c = d.config

    by : (first : Option (List ℕ)) → HasFirst d.config submitted own first
        → IsIdle (desk_slots d.config submitted) (own ++ option_to_list (option_map (Propose 0) first)) []
        → HasProposed d.config.epochs d.closed (own ++ option_to_list (option_map (Propose 0) first))
        → IsOwed (desk_slots d.config submitted) own [] (option_to_list (option_map (Propose 0) first))
    by None has idle proposed =
        IsOwed-nil (desk_slots d.config submitted) own [] (subst (λ (own : List Vote). IsIdle (desk_slots d.config submitted) own []) (append-nil own) idle)
    by (Some value) has idle proposed =
        let first : List Vote = Propose 0 value ∷ [] in
        let closed : HasClosed d.config.epochs d.closed (own ++ first) =
        HasClosed-more d.config.epochs d.closed own first (λ e. first_closes_none (Some value) e) stands.closed in
        let row : pass (proposal_row d.config submitted d.config.epochs) own [] ≡ first =
        row_extends (proposal_slot d.config submitted) 1 d.config.epochs own [] first some
        (row_more (proposal_slot d.config submitted) 0 own [] [] refl
        ∙ ap (λ (own : List Vote). owes (proposal_slot d.config submitted 0) own []) (append-nil own)
        ∙ proposal_made d.config submitted 0 own [] has.0 refl
        ∙ ap (λ (value : List ℕ). Propose 0 value ∷ []) (sym has.1))
        (λ e above below. proposal_settled d.config submitted d.closed (own ++ first) [] closed proposed e below) in
        record {
          count = 1;
          gives =
              append-nil (pass (desk_slots d.config submitted) own [])
              ∙ pass_three (proposal_row d.config submitted d.config.epochs) (no_more_row d.config d.config.epochs) (closing_row d.config d.config.epochs) own [] first [] []
              row
              (row_rests d.config d.node d.tables (own ++ first) [] placed
              (HaveHeard-more d.config d.node d.tables own first [] placed (λ e. first_wants_more (Some value) e) stands.tables))
              (ap (λ (own : List Vote). pass (closing_row d.config d.config.epochs) own []) (append-nil (own ++ first))
              ∙ closings_rest d.config d.closed (own ++ first) [] closed (λ below. none_accepted d.closed d.config.n nodes));
          rests = idle;
        }

pub start_stands : (d : EpochsView) → ArePlaced d.config d.node d.tables → (submitted : List (List ℕ)) (own : List Vote) (heard : List Hearing)
    → Stands d submitted own heard → Stands (record d { first = None }) submitted (own ++ first_votes d) heard
start_stands d placed submitted own heard stands = record {
  idle = subst (λ (own : List Vote). IsIdle (desk_slots d.config submitted) own heard) (sym (append-nil (own ++ first_votes d))) stands.idle;
  closed = HasClosed-more d.config.epochs d.closed own (first_votes d) (first_closes_none d.first) stands.closed;
  proposed = subst (HasProposed d.config.epochs d.closed) (sym (append-nil (own ++ first_votes d))) stands.proposed;
  pooled = stands.pooled ∙ sym (unsettled_more d.closed submitted own (first_votes d) (first_settles_none d.first d.closed));
  first = by d.first stands.first;
  tables = HaveHeard-more d.config d.node d.tables own (first_votes d) heard placed (first_wants_more d.first) stands.tables;
}
  where
    by : (first : Option (List ℕ)) → HasFirst d.config submitted own first
        → list_any (is_any_proposal 0) (own ++ option_to_list (option_map (Propose 0) first)) ≡ true
    by None has = any_stays (is_any_proposal 0) own [] has
    by (Some value) has = any_later (is_any_proposal 0) own (Propose 0 value ∷ []) refl

pub Starts-from : (d : EpochsView) (before after : List Vote) → 0 < d.config.epochs → 0 < d.config.n → ArePlaced d.config d.node d.tables
    → after ≡ before ++ first_votes d → Starts d (record d { first = None }) before after
Starts-from d before after some nodes placed due = record {
  state = refl;
  due = due;
  owed = start_owed d some nodes placed;
  stands = start_stands d placed;
}

-- ---- a state that is made anew

-- the epochs below one are closed one after the other, and this one is not
pub record AreClosedBelow (epochs closed : ℕ) (own : List Vote) : Type 0 where
  pub most : closed ≤ epochs
  pub below : (e : ℕ) → e < closed → list_any (is_any_closing e) own ≡ true
  pub next : closed < epochs → list_any (is_any_closing closed) own ≡ false

-- where a later epoch is closed, this one is
descends : (c : Numbers) (own : List Vote) → AreInOrder c own → (e k : ℕ) → list_any (is_any_closing (e + k)) own ≡ true
    → list_any (is_any_closing e) own ≡ true
descends c own order e zero closes = ap (λ (d : ℕ). list_any (is_any_closing d) own) (let same : e ≡ e + 0 = omega arith in same) ∙ closes
descends c own order e (suc k) closes =
    descends c own order e k
    (order.closings (suc (e + k)) (ap (λ (d : ℕ). list_any (is_any_closing d) own) (let same : suc (e + k) ≡ e + suc k = omega arith in same) ∙ closes))

HasClosed-made : (c : Numbers) (closed : ℕ) (own : List Vote) → AreInOrder c own → AreClosedBelow c.epochs closed own → HasClosed c.epochs closed own
HasClosed-made c closed own order are = record {
  below = are.below;
  above = λ e above below.
      false_from_ne_true (list_any (is_any_closing e) own)
      (λ closes.
      let same : e ≡ closed + (e - closed) = omega arith in
      both_ways (list_any (is_any_closing closed) own) (are.next (omega arith))
      (descends c own order closed (e - closed) (ap (λ (d : ℕ). list_any (is_any_closing d) own) (sym same) ∙ closes)));
}

pub Stands-made : (c : Numbers) (i closed : ℕ) (pooled : List (List ℕ)) (tables : List Table) (own : List Vote) → c.f < c.n
    → AreInOrder c own → AreClosedBelow c.epochs closed own → AreUnheard own c.epochs tables
    → (submitted : List (List ℕ)) → pooled ≡ first_places submitted
    → Stands
    (record {
      config = c;
      node = i;
      pooled = without (flat_map closed_transactions own) pooled;
      closed = closed;
      first = first_value c.batch pooled (list_any (is_any_proposal 0) own);
      tables = tables;
    })
    submitted own []
Stands-made c i closed pooled tables own enough order are unheard submitted is = record {
  idle =
      desk_rests c submitted closed (own ++ first) []
      (HasClosed-more c.epochs closed own first (first_closes_none value) has) proposed
      (row_rests c i tables (own ++ first) [] placed (HaveHeard-more c i tables own first [] placed (first_wants_more value) have))
      (λ below. none_accepted closed c.n (omega arith));
  closed = has;
  proposed = proposed;
  pooled = ap (without (flat_map closed_transactions own)) is ∙ unsettled_all closed submitted own closes_below;
  first = by (list_any (is_any_proposal 0) own) refl;
  tables = have;
}
  where
    value : Option (List ℕ)
    value = first_value c.batch pooled (list_any (is_any_proposal 0) own)

    first : List Vote
    first = option_to_list (option_map (Propose 0) value)

    has : HasClosed c.epochs closed own
    has = HasClosed-made c closed own order are

    placed : ArePlaced c i tables
    placed = ArePlaced-fresh c i tables own unheard

    have : HaveHeard c i tables own []
    have = HaveHeard-fresh c i tables own enough unheard

    closes_below : (e : ℕ) → list_any (is_any_closing e) own ≡ true → e < closed
    closes_below e closes = elim (cases_lt e closed) [
      | inl below ↦ below
      | inr above ↦ absurd (both_ways (list_any (is_any_closing e) own) (has.above e above (order.within e closes)) closes)
    ]

    by : (b : Bool) → list_any (is_any_proposal 0) own ≡ b → HasFirst c submitted own (first_value c.batch pooled b)
    by true cast = cast
    by false none = (none, ap (λ (txs : List (List ℕ)). batch_bytes (take c.batch txs)) (is ∙ sym (unsettled_zero submitted own)))

    cast_first : (b : Bool) → list_any (is_any_proposal 0) own ≡ b
        → list_any (is_any_proposal 0) (own ++ option_to_list (option_map (Propose 0) (first_value c.batch pooled b))) ≡ true
    cast_first true cast = any_stays (is_any_proposal 0) own [] cast
    cast_first false none = any_later (is_any_proposal 0) own (Propose 0 (batch_bytes (take c.batch pooled)) ∷ []) refl

    upto : (e : ℕ) → e ≤ closed → e < c.epochs → list_any (is_any_proposal e) (own ++ first) ≡ true
    upto zero le below = cast_first (list_any (is_any_proposal 0) own) refl
    upto (suc e) le below =
        any_stays (is_any_proposal (suc e)) own first
        (order.proposed (suc e) (omega arith) below (open_at c.epochs closed (suc e) own has le))

    proposed : HasProposed c.epochs closed (own ++ first)
    proposed = record {
      upto = λ e le below. upto e le below;
      above = λ e above below.
          any_neither (is_any_proposal e) own first
          (false_from_ne_true (list_any (is_any_proposal e) own)
          (λ cast. both_ways (is_open e own) (shut_at c.epochs closed e own has above below) (order.proposals e cast)))
          (first_later value e (omega arith));
    }

-- ---- as the code has them

pub Starts-taken : (d : EpochsView) (left taken : Option (List ℕ)) (before mid after : List Vote) → 0 < d.config.epochs → 0 < d.config.n
    → ArePlaced d.config d.node d.tables → left ≡ None → after ≡ mid ++ option_to_list (option_map (Propose 0) taken) → taken ≡ d.first → mid ≡ before
    → Starts d (record d { first = left }) before after
Starts-taken d left taken before mid after some nodes placed none due was same =
    subst (λ (first : Option (List ℕ)). Starts d (record d { first = first }) before after) (sym none)
    (Starts-from d before after some nodes placed
    (due ∙ ap (λ (vs : List Vote). vs ++ option_to_list (option_map (Propose 0) taken)) same
    ∙ ap (λ (first : Option (List ℕ)). before ++ option_to_list (option_map (Propose 0) first)) was))

-- a vote is heard in tables, which are then read to close epochs, and kept
pub record HasRun (d : EpochsView) (had new shut left : List Table) (to : ℕ) (h : Hearing) (is_due : Bool) (start k : Kept) : Type 0 where
  pub from : had ≡ d.tables
  pub keeps : left ≡ new
  pub reads : shut ≡ new
  pub begins : start ≡ record { pooled = d.pooled; closings = []; proposals = [] }
  pub hears : HearsAll d.config d.node had new h is_due
  pub closes : (i : ℕ) → ArePlaced d.config i shut → ClosesAll d.config i shut d.closed to start k

-- the epochs that it closes
pub run_closes : (d : EpochsView) (had new shut left : List Table) (to : ℕ) (h : Hearing) (is_due : Bool) (start k : Kept)
    → HasRun d had new shut left to h is_due start k
    → ClosesAll d.config d.node new d.closed to (record { pooled = d.pooled; closings = []; proposals = [] }) k
run_closes d had new shut left to h is_due start k ran =
    subst (λ (s : Kept). ClosesAll d.config d.node new d.closed to s k) ran.begins
    (subst (λ (ts : List Table). ClosesAll d.config d.node ts d.closed to start k) ran.reads
    (ran.closes d.node (subst (ArePlaced d.config d.node) (sym ran.reads) ran.hears.placed)))

-- no more votes than the run has epochs
pub run_fits : (d : EpochsView) (had new shut left : List Table) (to : ℕ) (h : Hearing) (is_due : Bool) (start k : Kept)
    → HasRun d had new shut left to h is_due start k → d.config.epochs ≤ most_epochs
    → (length k.closings ≤ most_epochs) × (length k.proposals ≤ most_epochs)
run_fits d had new shut left to h is_due start k ran few =
    let closes = run_closes d had new shut left to h is_due start k ran in
    let fits = run_length d.config d.node new d.closed closes.count (record { pooled = d.pooled; closings = []; proposals = [] }) k closes.closed in
    (omega (arith, fits.0, few, closes.reaches, closes.most), omega (arith, fits.1, few, closes.reaches, closes.most))

-- the state is as sound as it was
pub run_sound : (d : EpochsView) (had new shut left : List Table) (to : ℕ) (h : Hearing) (is_due : Bool) (start k : Kept)
    → HasRun d had new shut left to h is_due start k → IsSound d.config d.node d.closed d.tables → IsSound d.config d.node to left
run_sound d had new shut left to h is_due start k ran sound =
    let closes = run_closes d had new shut left to h is_due start k ran in
    record {
      some = sound.some;
      few = sound.few;
      enough = sound.enough;
      most = closes.most;
      count = ap (λ (ts : List Table). length ts) ran.keeps ∙ ran.hears.count ∙ ap (λ (ts : List Table). length ts) ran.from ∙ sound.count;
      placed = subst (ArePlaced d.config d.node) (sym ran.keeps) ran.hears.placed;
    }

pub Hears-ran : (d : EpochsView) (had new shut left : List Table) (to : ℕ) (h : Hearing) (is_due : Bool) (start k : Kept) (before after : List Vote)
    → HasRun d had new shut left to h is_due start k → d.first ≡ None → after ≡ with_all before (no_more_if is_due (epoch_of h.vote)) k
    → Hears d (record d { pooled = k.pooled; closed = to; tables = left }) h before after
Hears-ran d had new shut left to h is_due start k before after ran none is =
    subst (λ (ts : List Table). Hears d (record d { pooled = k.pooled; closed = to; tables = ts }) h before after) (sym ran.keeps)
    (subst (λ (vs : List Vote). Hears d (record d { pooled = k.pooled; closed = to; tables = new }) h before vs) (sym is)
    (Hears-from d to new h is_due k before none
    (subst (λ (ts : List Table). HearsAll d.config d.node ts new h is_due) ran.from ran.hears)
    (run_closes d had new shut left to h is_due start k ran)))

pub Stands-remade : (c : Numbers) (i closed epochs batch : ℕ) (told pooled : List (List ℕ)) (first : Option (List ℕ)) (tables : List Table) (own : List Vote)
    → c.f < c.n → epochs ≡ c.epochs → batch ≡ c.batch → AreClosedBelow epochs closed own → AreUnheard own epochs tables
    → pooled ≡ without (flat_map closed_transactions own) told → first ≡ first_value batch told (list_any (is_any_proposal 0) own)
    → (submitted : List (List ℕ)) → told ≡ first_places submitted → AreInOrder c own
    → Stands (record { config = c; node = i; pooled = pooled; closed = closed; first = first; tables = tables }) submitted own []
Stands-remade c i closed epochs batch told pooled first tables own enough run size are unheard left value submitted is order =
    subst (λ (first : Option (List ℕ)). Stands (record { config = c; node = i; pooled = pooled; closed = closed; first = first; tables = tables }) submitted own [])
    (sym (value ∙ ap (λ (b : ℕ). first_value b told (list_any (is_any_proposal 0) own)) size))
    (subst (λ (txs : List (List ℕ)). Stands (record { config = c; node = i; pooled = txs; closed = closed; first = first_value c.batch told (list_any (is_any_proposal 0) own); tables = tables }) submitted own [])
    (sym left)
    (Stands-made c i closed told tables own enough order
    (subst (λ (n : ℕ). AreClosedBelow n closed own) run are) (subst (λ (n : ℕ). AreUnheard own n tables) run unheard) submitted is))

-- the state is sound
pub sound_made : (c : Numbers) (i closed epochs n f : ℕ) (tables : List Table) (own : List Vote) → 1 ≤ epochs → epochs ≤ most_epochs → f < n
    → epochs ≡ c.epochs → n ≡ c.n → f ≡ c.f → closed ≤ epochs → AreUnheard own epochs tables → IsSound c i closed tables
sound_made c i closed epochs n f tables own some few enough run nodes faulty most unheard = record {
  some = omega (arith, some, run);
  few = omega (arith, few, run);
  enough = omega (arith, enough, nodes, faulty);
  most = omega (arith, most, run);
  count = unheard.count ∙ run;
  placed = ArePlaced-fresh c i tables own (subst (λ (n : ℕ). AreUnheard own n tables) run unheard);
}
